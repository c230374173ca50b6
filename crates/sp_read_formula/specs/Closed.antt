-- Formulas up to a closing sign, which is how they stand in a text.
use Rattle.std.specs.Prelude.{◌≡◌, ℕ, List, ◌∷◌}
use Rattle.sp_spec_text.specs.Signs.{Sign}
use Rattle.sp_spec_text.specs.Signs as s
use Rattle.sp_spec_text.specs.Token.{Lexeme, sign}
use Rattle.sp_spec.specs.Formula.{Formula}
use Rattle.sp_spec_text.specs.Formulas.{SpellsFormula}
use Rattle.sp_spec_text.specs.Theories.{SpellsQuoted}

-- a closing sign behind a formula: `)` or `"`
abbrev pub Closes : Sign → Type 0
Closes s.Close = Unit {0}
Closes s.Quote = Unit {0}
Closes _ = ⊥

-- the tokens are a spelling of f, the closing sign, and the rest
abbrev pub IsClosed : ℕ → Sign → List Lexeme → Formula → List Lexeme → Type 0
IsClosed n close tokens f rest = SpellsFormula n tokens f (sign close ∷ rest)

-- what is spelled before a closing sign, and what follows it, are fixed by the tokens
pub record ClosedFormulasAreOne : Type 0 where
  pub one : (n : ℕ) (close : Sign) → Closes close → (tokens r q : List Lexeme) (f g : Formula) → IsClosed n close tokens f r → IsClosed n close tokens g q → (f ≡ g) × (r ≡ q)

-- a formula behind its opening quote, and what follows its closing quote, are fixed by the tokens
pub record QuotedFormulasAreOne : Type 0 where
  pub one : (tokens r q : List Lexeme) (f g : Formula) → SpellsQuoted tokens f r → SpellsQuoted tokens g q → (f ≡ g) × (r ≡ q)
