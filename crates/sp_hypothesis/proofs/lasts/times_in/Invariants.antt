use Rattle.std.proofs.Common.{◌≡◌, ◌≤◌, zero, drop, map}
use Rattle.sp_formula.specs.FormulaView.{binder_of}
use Rattle.sp_law_truth.specs.Shown.{times_within}
use Rattle.sp_hypothesis.proofs.lasts.times_in.Given as goal

abbrev pub invariant-loop-binder : goal.invariant-loop-binder
invariant-loop-binder l = record {
  counted : times_within (map binder_of (drop l.binder-index l.binder-items)) l.count ≡ times_within (map binder_of l.binders.items) zero;
  few : l.count ≤ l.binder-index;
}
