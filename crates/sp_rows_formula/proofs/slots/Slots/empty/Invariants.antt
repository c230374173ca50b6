use Rattle.std.proofs.Common.{◌≡◌, [], map, drop}
use Rattle.sp_formula.specs.FormulaView.{binder_of}
use Rattle.sp_spec_formula.specs.Instances as spec
use Rattle.sp_rows_formula.specs.SlotsView.{slots_of}
use Rattle.sp_rows_formula.proofs.slots.Slots.empty.Given as goal

abbrev pub invariant-loop-binder : goal.invariant-loop-binder
invariant-loop-binder l =
    spec.empty_slots (map binder_of l.binders.items) (record { terms = []; times = [] })
    ≡ spec.empty_slots (map binder_of (drop l.binder-index l.binder-items)) (slots_of l.made)
