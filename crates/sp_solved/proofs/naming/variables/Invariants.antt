use Rattle.std.proofs.Common.{◌≡◌, [], map, drop}
use Rattle.sp_term.specs.View.{variable_of}
use Rattle.sp_solved.specs.ListingView.{events_of}
use Rattle.sp_spec_solved.specs.Naming.{once_after, in_events}
use Rattle.sp_solved.proofs.naming.variables.Given as goal

abbrev pub invariant-loop-event : goal.invariant-loop-event
invariant-loop-event l =
    once_after (map variable_of l.seen.items) (in_events (events_of (drop l.event-index l.events.items)))
    ≡ once_after [] (in_events (events_of l.events.items))
