use Rattle.std.proofs.Common.{◌≡◌, map, drop}
use Rattle.sp_law_equal.specs.Matching.{value_in}
use Rattle.sp_norm.specs.Bounds.{bounds}
use Rattle.sp_system.specs.SystemView.{link_of}
use Rattle.sp_learn.specs.View.{entry_of}
use Rattle.sp_spec_solved.specs.Candidate.{entries_of}
use Rattle.sp_solved.specs.ListingView.{events_of}
use Rattle.sp_spec.proofs.Options.{behind}
use Rattle.sp_solved.proofs.suggest.entries.Given as goal

abbrev pub invariant-loop-event : goal.invariant-loop-event
invariant-loop-event l =
    behind (map entry_of l.made.items)
    (entries_of (events_of l.events.items) (map link_of l.links.items) (value_in (bounds l.values)) (events_of (drop l.event-index l.events.items)))
    ≡ entries_of (events_of l.events.items) (map link_of l.links.items) (value_in (bounds l.values)) (events_of l.events.items)
