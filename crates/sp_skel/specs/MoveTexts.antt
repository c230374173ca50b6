-- The texts of moves as they stand between the brackets of `solve( )`: a word, and what it needs, with one space between two of them.
-- Blanks around are no part of a text. Source: Tamarin manual, "Proofs" (goals are written in `solve( )`); the words are this project's own.
use Rattle.std.specs.Prelude.{ℕ, Bool, true, false, not, ◌&&◌, ◌||◌, ◌==◌, if◌then◌else◌, List, [], ◌∷◌, Option, Some, None, option_map, option_and_then}
use Rattle.std.specs.Option.{option_or}
use Rattle.sp_spec_text.specs.Lex.{is_constant_byte}
use Rattle.sp_spec_text.specs.Blanks.{onto_first}
use Rattle.sp_spec_text.specs.Numerals.{are_digits, value, below_limit}
use Rattle.sp_spec_system.specs.Move.{Side, fresh_side, public_side, constant_side}
use Rattle.sp_spec_system.specs.Words.{Said, digits, named}

-- ---- words

-- what stands between spaces that are in no constant
unfoldable pub words_from : Bool → List ℕ → List (List ℕ)
words_from quoted [] = [] ∷ []
words_from quoted (b ∷ bytes) = if b == 32 && not quoted then [] ∷ words_from quoted bytes else onto_first b (words_from (if b == 39 then not quoted else quoted) bytes)

abbrev pub words : List ℕ → List (List ℕ)
words text = words_from false text

-- those of a text that may follow
abbrev pub words_behind : Option (List ℕ) → List (List ℕ)
words_behind None = []
words_behind (Some text) = words text

-- ---- numbers

-- whether a zero stands before other digits
abbrev pub has_leading_zero : List ℕ → Bool
has_leading_zero [] = false
has_leading_zero (b ∷ []) = false
has_leading_zero (b ∷ c ∷ bytes) = b == 48

abbrev pub is_empty : List ℕ → Bool
is_empty [] = true
is_empty (b ∷ bytes) = false

-- the number of decimal digits, if it is one of the program's numbers of variables and has no leading zero
unfoldable pub number_of : List ℕ → Option ℕ
number_of word = if is_empty word || has_leading_zero word || not (are_digits word) then None else below_limit (value 0 word)

-- ---- sides of `same`

-- the bytes of a constant, before the quote with which the text ends
unfoldable pub unquoted : List ℕ → Option (List ℕ)
unquoted [] = None
unquoted (b ∷ []) = if b == 39 then Some [] else None
unquoted (b ∷ c ∷ bytes) = if is_constant_byte b then option_map (λ body. b ∷ body) (unquoted (c ∷ bytes)) else None

-- a constant is not empty
abbrev pub constant_of : List ℕ → Option Side
constant_of [] = None
constant_of (b ∷ bytes) = Some (constant_side (b ∷ bytes))

-- `~N`, `$N`, or a constant in quotes
abbrev pub side_of : List ℕ → Option Side
side_of [] = None
side_of (b ∷ bytes) =
    if b == 126 then option_map fresh_side (number_of bytes)
    else if b == 36 then option_map public_side (number_of bytes)
    else if b == 39 then option_and_then constant_of (unquoted bytes)
    else None

-- ---- what stands behind the word of a move

-- a side, or else a number
abbrev pub said_by : List ℕ → Option Said
said_by word = option_or (option_map named (side_of word)) (option_map digits (number_of word))

-- what all of them say
abbrev pub all_said : List (List ℕ) → Option (List Said)
all_said [] = Some []
all_said (word ∷ others) = option_and_then (λ x. option_map (λ xs. x ∷ xs) (all_said others)) (said_by word)
