use Rattle.std.proofs.Common.{◌≡◌, drop}
use Rattle.sp_system.specs.SystemView.{system_of}
use Rattle.sp_spec_system.specs.Picked.{first_with}
use Rattle.sp_undecided.specs.Asked.{is_asked}
use Rattle.sp_undecided.proofs.times.first_with.Given as goal

abbrev pub invariant-loop-place : goal.invariant-loop-place
invariant-loop-place l =
    first_with (is_asked l.asked (system_of l.system)) l.time (drop l.start l.times.items)
    ≡ first_with (is_asked l.asked (system_of l.system)) l.time (drop l.place l.times.items)
