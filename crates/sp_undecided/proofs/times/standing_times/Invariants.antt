use Rattle.std.proofs.Common.{◌≡◌, ◌++◌}
use Rattle.std.specs.Prelude.{filter}
use Rattle.sp_system.specs.SystemView.{system_of}
use Rattle.sp_spec_system.specs.Occurring.{has_time}
use Rattle.sp_undecided.specs.Undecided.{standing_times}
use Rattle.sp_undecided.proofs.Counted.{from}
use Rattle.sp_undecided.proofs.times.standing_times.Given as goal

abbrev pub invariant-loop-number : goal.invariant-loop-number
invariant-loop-number l =
    l.made.items ++ filter (λ i. has_time i (system_of l.system)) (from l.number l.system.next) ≡ standing_times (system_of l.system)
