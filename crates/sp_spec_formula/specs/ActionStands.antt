-- Action stands: an action that its event has. Source: CSF 2012, "Constraint solving" (an action of a node).
use Rattle.std.specs.Prelude.{◌&&◌, Bool, ◌||◌, false, List, [], ◌∷◌, ℕ, ◌==◌, if◌then◌else◌, Option, Some, None, option_map}
use Rattle.sp_spec.specs.Term.{Variable}
use Rattle.sp_spec.specs.Rule.{Action}
use Rattle.sp_spec_forms.specs.Alike.{same_action}
use Rattle.sp_spec_system.specs.System.{Event, happening_actions, System}
use Rattle.sp_spec.specs.Guarded.{free_time, acts, Guarded, holds}
use Rattle.sp_spec_system.specs.Formulas.{freed_action, first_formula, spending}

-- Action stands: an action that its event has is spent.
abbrev pub is_among : Action Variable → List (Action Variable) → Bool
is_among a [] = false
is_among a (b ∷ bs) = same_action a b || is_among a bs

abbrev pub has_action : ℕ → Action Variable → List Event → Bool
has_action i a [] = false
has_action i a (e ∷ es) = (e.time == i) && is_among a (happening_actions e.happening) || has_action i a es

abbrev pub if_stands : List Event → ℕ → Option (Action Variable) → Option (Action Variable)
if_stands events i None = None
if_stands events i (Some a) = if has_action i a events then Some a else None

abbrev pub standing_of : List Event → Guarded → Option (Action Variable)
standing_of events (holds (acts a (free_time i))) = if_stands events i (freed_action a)
standing_of events f = None

abbrev pub action_stands : System → Option System
action_stands s = option_map (λ r. spending s r []) (first_formula (standing_of s.events) s.formulas)
