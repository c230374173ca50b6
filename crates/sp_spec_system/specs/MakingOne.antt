-- Making two times one: the larger number is replaced by the smaller, and the events at the two times become one. Source: CSF 2012,
-- "Constraint solving" (nodes of one label are merged).
use Rattle.std.specs.Prelude.{List, ◌∷◌, ◌++◌, Bool, if◌then◌else◌, [], map, length, Option, Some, None, option_map, ℕ, zero, suc, ◌==◌, ◌&&◌, ◌||◌, slice_get, option_and_then}
use Rattle.sp_spec_system.specs.System.{Way, Happening, rule_step, sending, learning, Event, System, with_events, happening_premises}
use Rattle.sp_spec_system.specs.Equating.{Merging, merging, system_changed, order_changed, smaller, larger}
use Rattle.sp_spec.specs.Unifier.{Pair, mgu}
use Rattle.sp_spec.specs.Substitution.{bound_to}
use Rattle.sp_spec.specs.Change.{time_replaced}
use Rattle.sp_spec.specs.Term.{Variable}
use Rattle.sp_spec.specs.Rule.{Fact}

-- two events, and all events but the second
pub record MergingEvents : Type 0 where
  pub first : Event
  pub second : Event
  pub others : List Event

abbrev pub merging_behind : Event → MergingEvents → MergingEvents
merging_behind e r = record { first = r.first; second = r.second; others = e ∷ r.others }

-- the first of these events that is one with this one, which stands in front of them
abbrev pub merging_with : (Event → Event → Bool) → Event → List Event → Option MergingEvents
merging_with are_one e [] = None
merging_with are_one e (d ∷ es) =
    if are_one e d then Some (record { first = e; second = d; others = es })
    else option_map (merging_behind d) (merging_with are_one e es)

abbrev pub merging_from : Event → Option MergingEvents → Option MergingEvents → Option MergingEvents
merging_from e (Some r) later = Some (record { first = r.first; second = r.second; others = e ∷ r.others })
merging_from e None later = option_map (merging_behind e) later

abbrev pub merging_events : (Event → Event → Bool) → List Event → Option MergingEvents
merging_events are_one [] = None
merging_events are_one (e ∷ es) = merging_from e (merging_with are_one e es) (merging_events are_one es)

-- the one event is at the one time, the other at the other
abbrev pub at_times : ℕ → ℕ → Event → Event → Bool
at_times i j e d = (e.time == i) && (d.time == j) || (e.time == j) && (d.time == i)

-- the way in which something is learnt there
abbrev pub happening_by : Way → Happening → Happening
happening_by way (learning m other) = learning m way
happening_by way (rule_step r facts) = rule_step r facts
happening_by way (sending m) = sending m

abbrev pub learnt_by_at : ℕ → Way → List Event → List Event
learnt_by_at i way events = map (λ (e : Event). if e.time == i then record { time = e.time; happening = happening_by way e.happening } else e) events

-- the smaller of the times is put for the larger
abbrev pub one_time : ℕ × ℕ → ℕ → ℕ
one_time p = time_replaced (smaller p.0 p.1) (larger p.0 p.1)

abbrev pub with_one_time : ℕ × ℕ → System → System
with_one_time p s = system_changed (bound_to []) (one_time p) s

-- a system, pairs of terms that have to be the same in it, and times that have to be one
pub record Joining : Type 0 where
  pub system : System
  pub pairs : List Pair
  pub times : List (ℕ × ℕ)

-- two times are one, and the events at them
abbrev pub joined : ℕ × ℕ → Joining → Option MergingEvents → Option Joining
joined p j None = Some (record { system = with_one_time p j.system; pairs = j.pairs; times = map (order_changed (one_time p)) j.times })
joined p j (Some r) =
    option_map
    (λ (m : Merging). record {
      system = with_one_time p (with_events j.system (learnt_by_at r.first.time m.way r.others));
      pairs = j.pairs ++ m.pairs;
      times = map (order_changed (one_time p)) (j.times ++ m.times);
    })
    (merging r.first.happening r.second.happening)

abbrev pub with_times : Joining → List (ℕ × ℕ) → Joining
with_times j times = record { system = j.system; pairs = j.pairs; times = times }

-- The first of the times that have to be one are made one, and then it is gone on.
abbrev pub turn : (Joining → Option Joining) → Joining → List (ℕ × ℕ) → Option Joining
turn again j [] = Some j
turn again j (p ∷ times) = option_and_then again (joined p (with_times j times) (merging_events (at_times p.0 p.1) j.system.events))

-- each turn makes two times one, and adds two more only where two events become one; so there are no more turns than events, and one
abbrev pub all_joined : ℕ → Joining → Option Joining
all_joined zero j = turn (λ k. None) j j.times
all_joined (suc n) j = turn (all_joined n) j j.times

-- the system in which all its pairs are the same, if they can be
abbrev pub unified : Joining → Option System
unified j = option_map (λ bs. system_changed (bound_to bs) (λ i. i) j.system) (mgu j.pairs)

-- the system in which these times are one, if it can be
abbrev pub made_one : System → ℕ × ℕ → Option System
made_one s p = option_and_then unified (all_joined (suc (length s.events)) (record { system = s; pairs = []; times = p ∷ [] }))

-- the first event at a time
abbrev pub event_at : ℕ → List Event → Option Event
event_at i [] = None
event_at i (e ∷ es) = if e.time == i then Some e else event_at i es

-- the premise at a place of the event at a time
abbrev pub premise_at : List Event → ℕ → ℕ → Option (Fact Variable)
premise_at events i p = option_and_then (λ (e : Event). slice_get (happening_premises e.happening) p) (event_at i events)
