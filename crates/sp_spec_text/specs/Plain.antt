-- Formulas in tokens: up to its closing quote the signs of logic are read as the text beside them. Source: Tamarin manual, "Property specification".
use Rattle.std.specs.Prelude.{Bool, true, false, List, [], ◌∷◌, if◌then◌else◌, codes}
use Rattle.sp_spec_text.specs.Signs.{Wide}
use Rattle.sp_spec_text.specs.Signs as s
use Rattle.sp_spec_text.specs.Token.{Lexeme, word, sign, wide}

-- the text beside a sign of logic
abbrev pub text_beside : Wide → Lexeme
text_beside s.All = word (codes "All")
text_beside s.Ex = word (codes "Ex")
text_beside s.Both = sign s.And
text_beside s.Either = sign s.Or
text_beside s.Not = word (codes "not")
text_beside s.Then = sign s.Implies
text_beside s.Same = sign s.Iff
text_beside s.True = word (codes "T")
text_beside s.False = word (codes "F")

abbrev pub plain : Lexeme → Lexeme
plain (wide x) = text_beside x
plain x = x

abbrev pub is_quote : Lexeme → Bool
is_quote (sign s.Quote) = true
is_quote _ = false

-- the tokens before the first quote as they are read in a formula; from there on they are as they stand
abbrev pub plain_to_quote : List Lexeme → List Lexeme
plain_to_quote [] = []
plain_to_quote (x ∷ tokens) = if is_quote x then x ∷ tokens else plain x ∷ plain_to_quote tokens
