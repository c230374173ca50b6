use Rattle.std.proofs.Common.{◌≡◌, ◌+◌, ◌≤◌, drop, map}
use Rattle.sp_formula.specs.FormulaView.{binder_of}
use Rattle.sp_law_guard.specs.IsGuarded.{times_in}
use Rattle.sp_guard.proofs.guarded.times_in.Given as goal

abbrev pub invariant-loop-binder : goal.invariant-loop-binder
invariant-loop-binder l = record {
  counted : l.count + times_in (map binder_of (drop l.binder-index l.binder-items)) ≡ times_in (map binder_of l.binders.items);
  few : l.count ≤ l.binder-index;
}
