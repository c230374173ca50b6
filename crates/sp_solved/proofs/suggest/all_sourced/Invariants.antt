use Rattle.std.proofs.Common.{◌≡◌, map, drop}
use Rattle.sp_system.specs.SystemView.{event_of, link_of}
use Rattle.sp_spec_solved.specs.Candidate.{all_sourced}
use Rattle.sp_solved.proofs.suggest.all_sourced.Given as goal

abbrev pub invariant-loop-event : goal.invariant-loop-event
invariant-loop-event l =
    all_sourced (map event_of l.events.items) (map link_of l.links.items) (map event_of l.events.items)
    ≡ all_sourced (map event_of l.events.items) (map link_of l.links.items) (map event_of (drop l.event-index l.events.items))
