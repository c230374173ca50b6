-- What is so of lines of the command.
use Rattle.std.specs.Prelude.{◌≡◌, ℕ, List}
use Rattle.sp_words.specs.Line.{Request, IsLine}

-- a line asks for one thing
abbrev pub LinesAskOnce : Type 0
LinesAskOnce = (words : List (List ℕ)) (a b : Request) → IsLine words a → IsLine words b → a ≡ b
