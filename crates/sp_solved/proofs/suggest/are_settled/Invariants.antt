use Rattle.std.proofs.Common.{◌≡◌, map, drop}
use Rattle.sp_system.specs.SystemView.{event_of}
use Rattle.sp_spec_solved.specs.Candidate.{are_settled}
use Rattle.sp_solved.proofs.suggest.are_settled.Given as goal

abbrev pub invariant-loop-event : goal.invariant-loop-event
invariant-loop-event l = are_settled (map event_of l.events.items) ≡ are_settled (map event_of (drop l.event-index l.events.items))
