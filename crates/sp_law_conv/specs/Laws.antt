-- What holds of accepted equations.
use Rattle.std.specs.Prelude.{◌≡◌, ℕ, List}
use Rattle.sp_spec.specs.Signature.{Symbol, Equation, HasSymbol}
use Rattle.sp_law_equal.specs.SubtermRules.{AreSubtermRules, BringInNoSymbols}
use Rattle.sp_law_equal.specs.NormalForms.{HaveNormalForms, KeepSymbols}
use Rattle.sp_law_equal.specs.Right.{EquationsAreOver, HaveNoNames, KeepPublic}
use Rattle.sp_law_conv.specs.Accepted.{AreAccepted}

-- no two symbols have one name and different arities
abbrev pub HaveOneArity : List Symbol → Type 0
HaveOneArity symbols = (f : List ℕ) (m n : ℕ) → HasSymbol symbols f m → HasSymbol symbols f n → m ≡ n

-- Accepted equations over symbols of one arity each are subterm rules that bring in no symbol and no name, so that each term has one normal form over its symbols.
pub record AcceptedAreConvergent : Type 0 where
  pub subterm_rules : (symbols : List Symbol) (es : List Equation) → HaveOneArity symbols → EquationsAreOver symbols es → AreAccepted symbols es → AreSubtermRules es
  pub no_symbols : (symbols : List Symbol) (es : List Equation) → AreAccepted symbols es → BringInNoSymbols symbols es
  pub no_names : (symbols : List Symbol) (es : List Equation) → AreAccepted symbols es → HaveNoNames es
  pub public : (symbols : List Symbol) (es : List Equation) → AreAccepted symbols es → KeepPublic symbols es
  pub normal_forms : (symbols : List Symbol) (es : List Equation) → HaveOneArity symbols → EquationsAreOver symbols es → AreAccepted symbols es → HaveNormalForms es
  pub keep : (symbols : List Symbol) (es : List Equation) → AreAccepted symbols es → KeepSymbols symbols es
