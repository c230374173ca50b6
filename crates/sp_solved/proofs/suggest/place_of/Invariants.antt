use Rattle.std.proofs.Common.{◌≡◌, ◌+◌, ℕ, drop, option_map}
use Rattle.sp_spec_solved.specs.Candidate.{place_of}
use Rattle.sp_solved.specs.ListingView.{events_of}
use Rattle.sp_solved.proofs.suggest.place_of.Given as goal

abbrev pub invariant-loop-place : goal.invariant-loop-place
invariant-loop-place l =
    place_of l.time (events_of l.events.items) ≡ option_map (λ (k : ℕ). l.place + k) (place_of l.time (events_of (drop l.place l.events.items)))
