use Rattle.std.proofs.Common.{◌≡◌, map, drop}
use Rattle.sp_system.specs.SystemView.{event_of}
use Rattle.sp_spec_system.specs.MakingOne as rows
use Rattle.sp_system.proofs.at_time.event_at.Given as goal

abbrev pub invariant-loop-event : goal.invariant-loop-event
invariant-loop-event l = rows.event_at l.time (map event_of l.events.items) ≡ rows.event_at l.time (map event_of (drop l.event-index l.event-items))
