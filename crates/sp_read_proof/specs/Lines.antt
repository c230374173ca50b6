-- The lines of a proof as they are read, one after the other. `R tokens x rest` says that the tokens begin with x, which R reads, and
-- that the rest follows. Source: Tamarin manual, "Proofs".
use Rattle.std.specs.Prelude.{ℕ, List, ◌∷◌, codes}
use Rattle.sp_spec_text.specs.Token.{Lexeme, word}
use Rattle.sp_spec_text.specs.Lists.{IsNotFirst}
use Rattle.sp_read_parts.specs.Parts.{IsNameFirst}
use Rattle.sp_spec_text.specs.Written.{Method, said}
use Rattle.sp_spec_text.specs.Proofs.{SpellsMethod}

-- a leaf; a method whose only case follows as it is; a method, and the name of its first case
pub data Line : Type 0 where
  leaf : Method → Line
  alone : Method → Line
  cases : Method → List ℕ → Line

pub data IsLine : List Lexeme → Line → List Lexeme → Type 0 where
  solved_line : {rest : List Lexeme} → IsLine (word (codes "SOLVED") ∷ rest) (leaf (said (codes "SOLVED"))) rest
  by_line : {x : Method} {tokens rest : List Lexeme} → SpellsMethod tokens x rest → IsLine (word (codes "by") ∷ tokens) (leaf x) rest
  move_line : {x : Method} {tokens rest : List Lexeme} → SpellsMethod tokens x rest → IsNotFirst (word (codes "case")) rest → IsLine tokens (alone x) rest
  case_line : {x : Method} {w : List ℕ} {tokens mid rest : List Lexeme} → SpellsMethod tokens x (word (codes "case") ∷ mid) → IsNameFirst mid w rest → IsLine tokens (cases x w) rest

-- what stands behind a case: the end of the cases, or the name of the next
pub data Behind : Type 0 where
  ended : Behind
  another : List ℕ → Behind

pub data IsBehind : List Lexeme → Behind → List Lexeme → Type 0 where
  qed_line : {rest : List Lexeme} → IsBehind (word (codes "qed") ∷ rest) ended rest
  next_line : {w : List ℕ} {tokens rest : List Lexeme} → IsNameFirst tokens w rest → IsBehind (word (codes "next") ∷ word (codes "case") ∷ tokens) (another w) rest
