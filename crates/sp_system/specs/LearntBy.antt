-- What is learnt at one event.
use Rattle.std.specs.Prelude.{ℕ, ◌==◌, if◌then◌else◌}
use Rattle.sp_spec_system.specs.System.{Way, Event}
use Rattle.sp_spec_system.specs.MakingOne.{happening_by}

-- at this time it is learnt in this way, where something is
abbrev pub learnt_by_one : ℕ → Way → Event → Event
learnt_by_one i way e = if e.time == i then record { time = e.time; happening = happening_by way e.happening } else e
