use Rattle.std.proofs.Common.{◌≡◌, ◌++◌, map, drop}
use Rattle.sp_formula.specs.FormulaView.{formula_of}
use Rattle.sp_written.specs.Views as view
use Rattle.sp_analysis.specs.Taken as spec
use Rattle.sp_analysis.specs.View.{taken_of}
use Rattle.sp_analysis.proofs.taken.taken_for.Given as goal

abbrev pub invariant-loop-other : goal.invariant-loop-other
invariant-loop-other l =
    map formula_of l.forms.items ++ spec.taken_for (view.attributes l.attributes.items) (map taken_of (drop l.other-index l.taken.items))
    ≡ spec.taken_for (view.attributes l.attributes.items) (map taken_of l.taken.items)
