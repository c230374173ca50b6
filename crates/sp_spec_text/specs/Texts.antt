-- What a text says by the whole grammar, and the places where its proofs and the text itself end.
use Rattle.std.specs.Prelude.{◌≡◌, ℕ, List, length, drop}
use Rattle.sp_spec_text.specs.Token.{Token}
use Rattle.sp_spec_text.specs.Lex.{AreTokens, lexemes}
use Rattle.sp_spec_text.specs.Ends.{behind_all}
use Rattle.sp_spec_text.specs.Written.{WrittenText}
use Rattle.sp_spec_text.specs.Spans.{Span}
use Rattle.sp_spec_text.specs.Theories.{SpellsTheory}
use Rattle.sp_spec_text.specs.Spans.{AreSpans}

-- the text's tokens, up to its first word `end`, spell the theory
pub record IsTextOf (text : List ℕ) (theory : WrittenText) : Type 0 where
  pub tokens : List Token
  pub cut : AreTokens (length text) text tokens
  pub spells : SpellsTheory (lexemes tokens) theory

pub record IsNoText (text : List ℕ) : Type 0 where
  pub none : (theory : WrittenText) → IsTextOf text theory → ⊥

-- Where the proofs of the lemmas stand, and the place behind the word `end`. The items stand behind three tokens.
pub record ArePlaces (text : List ℕ) (theory : WrittenText) (spans : List Span) (behind_end : ℕ) : Type 0 where
  pub tokens : List Token
  pub cut : AreTokens (length text) text tokens
  pub spans_are : AreSpans (drop 3 tokens) theory.items spans
  pub end_is : behind_end ≡ behind_all tokens
