-- Events one after the other, each behind those that the order of times puts before it. Source: CSF 2012, "Constraint solving" (the order of
-- timepoints); a topological order of the events.
use Rattle.std.specs.Prelude.{ℕ, zero, suc, ◌||◌, Bool, false, if◌then◌else◌, List, [], ◌∷◌, length, Option, Some, None, option_map, option_and_then}
use Rattle.sp_spec_system.specs.System.{Event}
use Rattle.sp_spec_system.specs.Order.{is_before}

-- whether one of these is before the time, by any path of order pairs
abbrev pub some_before : List (ℕ × ℕ) → List Event → ℕ → Bool
some_before order [] i = false
some_before order (e ∷ es) i = is_before order e.time i || some_before order es i

-- an event that isn't taken stays in front of the others
abbrev pub passed : Event → Event × List Event → Event × List Event
passed e p = (p.0, e ∷ p.1)

-- of these events the first that none of those left is before, and the others
abbrev pub first_free : List (ℕ × ℕ) → List Event → List Event → Option (Event × List Event)
first_free order left [] = None
first_free order left (e ∷ es) =
    if some_before order left e.time then option_map (passed e) (first_free order left es) else Some (e, es)

-- the first free one, and so on with the others, so many times
abbrev pub one_by_one : ℕ → List (ℕ × ℕ) → List Event → Option (List Event)
one_by_one zero order left = Some []
one_by_one (suc n) order left =
    option_and_then (λ (p : Event × List Event). option_map (λ (es : List Event). p.0 ∷ es) (one_by_one n order p.1)) (first_free order left left)

-- none where events stand before each other
abbrev pub in_order : List (ℕ × ℕ) → List Event → Option (List Event)
in_order order events = one_by_one (length events) order events
