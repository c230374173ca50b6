-- What holds of equality modulo equations.
use Rattle.std.specs.Prelude.{List}
use Rattle.sp_spec.specs.Signature.{Equation, Symbol, pair_equations}
use Rattle.sp_law_equal.specs.SubtermRules.{AreSubtermRules, BringInNoSymbols}
use Rattle.sp_law_equal.specs.NormalForms.{HaveNormalForms, KeepSymbols}

-- Over subterm rules each term has one normal form.
pub record NormalFormsDecide : Type 0 where
  pub each : (es : List Equation) → AreSubtermRules es → HaveNormalForms es

-- Normal forms are over the symbols that the terms are over, where each right side is a proper part of its left side or a constant of these.
pub record SymbolsAreKept : Type 0 where
  pub each : (symbols : List Symbol) (es : List Equation) → BringInNoSymbols symbols es → KeepSymbols symbols es

-- The equations of pairs are subterm rules that bring in no symbol, whatever the symbols are, and so have normal forms that keep to the symbols.
pub record PairsAreConvergent : Type 0 where
  pub subterm_rules : AreSubtermRules pair_equations
  pub no_symbols : (symbols : List Symbol) → BringInNoSymbols symbols pair_equations
  pub normal_forms : HaveNormalForms pair_equations
  pub keep : (symbols : List Symbol) → KeepSymbols symbols pair_equations
