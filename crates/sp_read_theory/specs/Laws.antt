-- Tokens spell one theory, and so a text says one, with its proofs at one place each.
use Rattle.std.specs.Prelude.{◌≡◌, ℕ, List}
use Rattle.sp_spec_text.specs.Token.{Lexeme}
use Rattle.sp_spec_text.specs.Written.{WrittenText}
use Rattle.sp_spec_text.specs.Spans.{Span}
use Rattle.sp_spec_text.specs.Theories.{SpellsTheory}
use Rattle.sp_spec_text.specs.Texts.{IsTextOf, ArePlaces}

pub record TextsSayOneTheory : Type 0 where
  pub spelled : (tokens : List Lexeme) (theory other : WrittenText) → SpellsTheory tokens theory → SpellsTheory tokens other → theory ≡ other
  pub said : (text : List ℕ) (theory other : WrittenText) → IsTextOf text theory → IsTextOf text other → theory ≡ other
  pub placed : (text : List ℕ) (theory : WrittenText) (spans others : List Span) (end other : ℕ) → ArePlaces text theory spans end → ArePlaces text theory others other → (spans ≡ others) × (end ≡ other)
