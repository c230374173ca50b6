-- What is learnt in a system. Source: CSF 2012, "Normal message deduction" (each message is known once, at one time).
use Rattle.std.specs.Prelude.{ℕ, suc, Bool, true, false, not, if◌then◌else◌, List, [], ◌∷◌, ◌++◌, Option, Some, None}
use Rattle.sp_spec.specs.Term.{Variable, Term}
use Rattle.sp_spec.specs.Same.{alike}
use Rattle.sp_spec_system.specs.System.{anyhow, Happening, rule_step, sending, learning, Event, System, with_events, with_pairs, with_next}
use Rattle.sp_spec_system.specs.Order.{is_before}

abbrev pub is_learning_of : Term Variable → Happening → Bool
is_learning_of t (learning m way) = alike t m
is_learning_of t (sending m) = false
is_learning_of t (rule_step r facts) = false

-- the time of the first learning of the message
abbrev pub learning_of : Term Variable → List Event → Option ℕ
learning_of t [] = None
learning_of t (e ∷ es) = if is_learning_of t e.happening then Some e.time else learning_of t es

-- a new event at the next number
abbrev pub with_event : System → Happening → System
with_event s h = with_next (with_events s (s.events ++ record { time = s.next; happening = h } ∷ [])) (suc s.next)

-- that the message is learnt before that time is missing
abbrev pub is_late : List (ℕ × ℕ) → ℕ → Option ℕ → Bool
is_late order i None = true
is_late order i (Some j) = not (is_before order j i)

abbrev pub is_unlearnt : System → Term Variable → ℕ → Bool
is_unlearnt s t i = is_late s.order i (learning_of t s.events)

abbrev pub learnt_from : Term Variable → ℕ → System → Option ℕ → System
learnt_from t i s None = with_event (with_pairs s ((s.next, i) ∷ [])) (learning t anyhow)
learnt_from t i s (Some j) = if is_before s.order j i then s else with_pairs s ((j, i) ∷ [])

-- the message is learnt before that time: what is missing of it is added
abbrev pub learnt_before : Term Variable → ℕ → System → System
learnt_before t i s = learnt_from t i s (learning_of t s.events)
