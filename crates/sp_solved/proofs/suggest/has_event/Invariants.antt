use Rattle.std.proofs.Common.{◌≡◌, map, drop}
use Rattle.sp_system.specs.SystemView.{event_of}
use Rattle.sp_spec_solved.specs.Candidate.{has_event}
use Rattle.sp_solved.proofs.suggest.has_event.Given as goal

abbrev pub invariant-loop-event : goal.invariant-loop-event
invariant-loop-event l = has_event (map event_of l.events.items) l.time ≡ has_event (map event_of (drop l.event-index l.events.items)) l.time
