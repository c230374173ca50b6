use Rattle.std.proofs.Common.{◌≡◌, drop}
use Rattle.sp_spec_formula.specs.Instances as spec
use Rattle.sp_rows_formula.proofs.SlotValues.{after}
use Rattle.sp_rows_formula.proofs.slots.all_times.Given as goal

abbrev pub invariant-loop-time : goal.invariant-loop-time
invariant-loop-time l = spec.all_times l.times.items ≡ after l.made.items (spec.all_times (drop l.time-index l.time-items))
