use Rattle.std.proofs.Common.{◌≡◌, ◌++◌, map, drop}
use Rattle.sp_system.specs.SystemView.{event_of}
use Rattle.sp_solved.specs.ListingView.{events_of}
use Rattle.sp_solved.proofs.listing.all.Given as goal

abbrev pub invariant-loop-event : goal.invariant-loop-event
invariant-loop-event l = events_of l.made.items ++ map event_of (drop l.event-index l.events.items) ≡ map event_of l.events.items
