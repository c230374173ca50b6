-- Two forms, if there are both, as something joins them.
use Rattle.std.specs.Prelude.{Option, option_map}
use Rattle.sp_spec.specs.Guarded.{Guarded}
use Rattle.sp_formula.specs.declared.formula.Formula.{Formula}
use Rattle.sp_formula.specs.FormulaView.{formula_of}

abbrev pub joined_by : (Guarded → Guarded → Guarded) → Option (Formula × Formula) → Option Guarded
joined_by join forms = option_map (λ p. join (formula_of p.0) (formula_of p.1)) forms
