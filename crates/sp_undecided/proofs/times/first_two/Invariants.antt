use Rattle.std.proofs.Common.{◌≡◌, drop}
use Rattle.sp_system.specs.SystemView.{system_of}
use Rattle.sp_spec_system.specs.Picked.{first_two}
use Rattle.sp_undecided.specs.Asked.{is_asked}
use Rattle.sp_undecided.proofs.times.first_two.Given as goal

abbrev pub invariant-loop-place : goal.invariant-loop-place
invariant-loop-place l =
    first_two (is_asked l.asked (system_of l.system)) l.times.items ≡ first_two (is_asked l.asked (system_of l.system)) (drop l.place l.times.items)
