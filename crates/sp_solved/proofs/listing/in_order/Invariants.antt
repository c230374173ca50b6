use Rattle.std.proofs.Common.{◌≡◌, ◌-◌, ◌++◌, List, map, length, option_map}
use Rattle.sp_spec_system.specs.System.{Event}
use Rattle.sp_system.specs.SystemView.{event_of}
use Rattle.sp_spec_solved.specs.Listing.{one_by_one, in_order}
use Rattle.sp_solved.specs.ListingView.{events_of}
use Rattle.sp_solved.proofs.listing.in_order.Given as goal

abbrev pub invariant-loop : goal.invariant-loop
invariant-loop l =
    option_map (λ (es : List Event). events_of l.listed.items ++ es) (one_by_one (length l.events.items - l.counter) l.order (events_of l.left.items))
    ≡ in_order l.order (map event_of l.events.items)
