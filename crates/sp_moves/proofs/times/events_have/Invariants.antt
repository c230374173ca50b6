use Rattle.std.proofs.Common.{◌≡◌, map, drop}
use Rattle.sp_system.specs.SystemView.{event_of}
use Rattle.sp_moves.specs.Times.{events_have}
use Rattle.sp_moves.proofs.times.events_have.Given as goal

abbrev pub invariant-loop-event : goal.invariant-loop-event
invariant-loop-event l = events_have l.time (map event_of l.events.items) ≡ events_have l.time (map event_of (drop l.event-index l.event-items))
