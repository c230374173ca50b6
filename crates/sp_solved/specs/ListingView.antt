-- How the events that are listed are kept in memory.
use Rattle.std.specs.Prelude.{ℕ, zero, suc, if◌then◌else◌, List, [], ◌∷◌, map, Option, Some, None, option_map}
use denote.Ref.{Bor}
use Rattle.sp_spec_system.specs.System as spec
use Rattle.sp_system.specs.SystemView.{event_of}
use Rattle.sp_system.specs.declared.event.Event.{Event}
use Rattle.sp_spec_solved.specs.Listing.{some_before}

-- events that are kept by reference
abbrev pub events_of : List (Bor Event) → List spec.Event
events_of events = map (λ (e : Bor Event). event_of e.now) events

-- the place of the first event that none of those left is before
abbrev pub free_place : List (ℕ × ℕ) → List spec.Event → List spec.Event → Option ℕ
free_place order left [] = None
free_place order left (e ∷ es) = if some_before order left e.time then option_map (λ (k : ℕ). suc k) (free_place order left es) else Some zero
