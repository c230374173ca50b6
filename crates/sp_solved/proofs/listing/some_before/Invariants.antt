use Rattle.std.proofs.Common.{◌≡◌, drop}
use Rattle.sp_spec_solved.specs.Listing.{some_before}
use Rattle.sp_solved.specs.ListingView.{events_of}
use Rattle.sp_solved.proofs.listing.some_before.Given as goal

abbrev pub invariant-loop-event : goal.invariant-loop-event
invariant-loop-event l = some_before l.order (events_of l.events.items) l.time ≡ some_before l.order (events_of (drop l.event-index l.events.items)) l.time
