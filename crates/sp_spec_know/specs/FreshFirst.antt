-- Fresh comes first: who uses the Fr of a term is before all that have the term. Source: CSF 2012, "Constraint solving" (fresh names are
-- unique and have one origin).
use Rattle.std.specs.Prelude.{◌||◌, Bool, false, ◌&&◌, ◌==◌, not, List, [], ◌∷◌, ℕ, if◌then◌else◌, Option, option_map}
use Rattle.sp_spec.specs.Term.{Variable, Term}
use Rattle.sp_spec.specs.Same.{is_part, is_part_of_one}
use Rattle.sp_spec.specs.Rule.{Fact}
use Rattle.sp_spec.specs.Log.{is_fr}
use Rattle.sp_spec_system.specs.System.{Happening, rule_step, sending, learning, Event, happening_premises, System, with_pairs}
use Rattle.sp_spec_system.specs.Order.{is_before}
use Rattle.sp_spec_graph.specs.Fresh.{happening_fresh}
use Rattle.sp_spec_system.specs.Picked.{if_any, first_some}

-- Fresh comes first: an event that uses the Fr of a term, be it as a name of the adversary's own, is before each event, itself included, that has the
-- term in a premise other than an Fr, and before each other event that learns a message with the term. (Of two events with one Fr, fresh once makes one, and
-- of two that learn one message learn once.) All that is missing for one Fr is added at once.
abbrev pub has_taken : Term Variable → List (Fact Variable) → Bool
has_taken t [] = false
has_taken t (f ∷ fs) = (not (is_fr f) && is_part_of_one t f.args) || has_taken t fs

abbrev pub has_learnt : Term Variable → Happening → Bool
has_learnt t (learning m way) = is_part t m
has_learnt t (sending m) = false
has_learnt t (rule_step r facts) = false

abbrev pub comes_later : ℕ → Term Variable → Event → Bool
comes_later i t e = has_taken t (happening_premises e.happening) || has_learnt t e.happening && not (e.time == i)

abbrev pub is_missing : List (ℕ × ℕ) → ℕ → Term Variable → Event → Bool
is_missing order i t e = comes_later i t e && not (is_before order i e.time)

abbrev pub missing_pairs : List (ℕ × ℕ) → ℕ → Term Variable → List Event → List (ℕ × ℕ)
missing_pairs order i t [] = []
missing_pairs order i t (e ∷ es) = if is_missing order i t e then (i, e.time) ∷ missing_pairs order i t es else missing_pairs order i t es

abbrev pub missing_behind : System → Event → Option (List (ℕ × ℕ))
missing_behind s e = first_some (λ t. if_any (missing_pairs s.order e.time t s.events)) (happening_fresh e.happening)

abbrev pub fresh_first : System → Option System
fresh_first s = option_map (with_pairs s) (first_some (missing_behind s) s.events)
