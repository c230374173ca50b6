use Rattle.std.proofs.Common.{◌≡◌, ◌+◌, ℕ, drop, option_map}
use Rattle.sp_solved.specs.ListingView.{events_of, free_place}
use Rattle.sp_solved.proofs.listing.free_place.Given as goal

abbrev pub invariant-loop-place : goal.invariant-loop-place
invariant-loop-place l =
    free_place l.order (events_of l.left.items) (events_of l.left.items)
    ≡ option_map (λ (k : ℕ). l.place + k) (free_place l.order (events_of l.left.items) (events_of (drop l.place l.left.items)))
