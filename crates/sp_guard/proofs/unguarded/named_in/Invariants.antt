use Rattle.std.proofs.Common.{◌≡◌, map}
use Rattle.std.specs.Slice.Iter.{iter_rest}
use Rattle.sp_read_parts.specs.Views as view
use Rattle.sp_formula.specs.FormulaView.{atom_of, binder_of}
use Rattle.sp_law_guard.specs.IsGuarded.{messages_in, times_in}
use Rattle.sp_guard.specs.FirstNamed.{named_in}
use Rattle.sp_guard.proofs.unguarded.named_in.Given as goal

abbrev pub invariant-loop-binder : goal.invariant-loop-binder
invariant-loop-binder l = record {
  named : named_in l.count (map atom_of l.guard.items) (map binder_of l.binders.items) (map view.variable l.named.items)
      ≡ named_in l.count (map atom_of l.guard.items) (map binder_of (iter_rest l.binder-iterator.a)) (map view.variable (iter_rest l.binder-iterator.b));
  messages : l.messages ≡ messages_in (map binder_of (iter_rest l.binder-iterator.a));
  times : l.times ≡ times_in (map binder_of (iter_rest l.binder-iterator.a));
}
