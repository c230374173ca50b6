use Rattle.std.proofs.Common.{◌≡◌, drop, map}
use Rattle.sp_read_parts.specs.Views.{variable}
use Rattle.sp_formula.specs.FormulaView.{formula_of}
use Rattle.sp_guard.specs.Bound.{for_some_form, each_bound}
use Rattle.sp_guard.proofs.form.some_values.Given as goal

abbrev pub invariant-loop-index : goal.invariant-loop-index
invariant-loop-index l = formula_of l.form ≡ each_bound for_some_form (map variable (drop l.index l.binders.items)) (formula_of l.fn.body)
