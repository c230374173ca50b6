use Rattle.std.proofs.Common.{◌≡◌, ◌++◌, map}
use Rattle.sp_spec.specs.Guarded.{fails}
use Rattle.sp_formula.specs.FormulaView.{binder_of, formula_of}
use Rattle.sp_law_induction.specs.Hypothesis.{not_lasts}
use Rattle.sp_hypothesis.specs.Descending.{descending}
use Rattle.sp_hypothesis.proofs.lasts.not_lasts.Given as goal

abbrev pub invariant-loop-place : goal.invariant-loop-place
invariant-loop-place l = map formula_of l.made.items ++ descending fails l.place ≡ not_lasts (map binder_of l.binders.items)

abbrev pub decreases-loop-place : goal.decreases-loop-place
decreases-loop-place l = l.place
