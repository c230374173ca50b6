-- Texts without the blanks around them, and the lines of a text. Source: Tamarin manual, "Syntax description".
use Rattle.std.specs.Prelude.{ℕ, ◌==◌, if◌then◌else◌, List, [], ◌∷◌, reverse}
use Rattle.sp_spec_text.specs.Lex.{is_blank}

-- without the blanks before it
unfoldable pub unblanked : List ℕ → List ℕ
unblanked [] = []
unblanked (b ∷ bytes) = if is_blank b then unblanked bytes else b ∷ bytes

-- without the blanks at both ends
abbrev pub trimmed : List ℕ → List ℕ
trimmed text = reverse (unblanked (reverse (unblanked text)))

-- the byte before the first of these texts
abbrev pub onto_first : ℕ → List (List ℕ) → List (List ℕ)
onto_first b [] = (b ∷ []) ∷ []
onto_first b (text ∷ others) = (b ∷ text) ∷ others

-- a text cut at its line feeds: one line more than those
unfoldable pub lines : List ℕ → List (List ℕ)
lines [] = [] ∷ []
lines (b ∷ bytes) = if b == 10 then [] ∷ lines bytes else onto_first b (lines bytes)
