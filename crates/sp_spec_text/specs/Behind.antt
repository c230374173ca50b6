-- What stands behind a text's first word `end`.
use Rattle.std.specs.Prelude.{◌≡◌, ℕ, true, List, [], ◌∷◌, length, drop}
use Rattle.sp_spec_text.specs.Token.{Token}
use Rattle.sp_spec_text.specs.Lex.{is_end, AreTokens}
use Rattle.sp_spec_text.specs.Ends.{behind_all}

-- the last of these tokens is the word `end`
abbrev pub EndsInEnd : List Token → Type 0
EndsInEnd [] = ⊥
EndsInEnd (t ∷ []) = is_end t.lexeme ≡ true
EndsInEnd (t ∷ u ∷ tokens) = EndsInEnd (u ∷ tokens)

-- the text's tokens, up to its first word `end`, are followed by these bytes
pub record IsBehindEnd (text behind : List ℕ) : Type 0 where
  pub tokens : List Token
  pub cut : AreTokens (length text) text tokens
  pub ended : EndsInEnd tokens
  pub behind_is : behind ≡ drop (behind_all tokens) text
