use Rattle.std.proofs.Common.{◌≡◌, drop, map}
use Rattle.sp_formula.specs.FormulaView.{atom_of, binder_of}
use Rattle.sp_law_guard.specs.IsGuarded.{messages_in, times_in, each_guarded}
use Rattle.sp_guard.proofs.guarded.each_guarded.Given as goal

abbrev pub invariant-loop-binder : goal.invariant-loop-binder
invariant-loop-binder l = record {
  guarded : each_guarded l.count (map atom_of l.guard.items) (map binder_of l.binders.items) ≡ each_guarded l.count (map atom_of l.guard.items) (map binder_of (drop l.binder-index l.binder-items));
  messages : l.messages ≡ messages_in (map binder_of (drop l.binder-index l.binder-items));
  times : l.times ≡ times_in (map binder_of (drop l.binder-index l.binder-items));
}
