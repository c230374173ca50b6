-- All matches of an action of a guard, and what is done once the actions have been matched.
use Rattle.std.specs.Prelude.{ℕ, List, [], ◌∷◌, ◌++◌, Option, Some, None}
use Rattle.sp_spec.specs.Term.{Variable}
use Rattle.sp_spec.specs.Rule.{Action}
use Rattle.sp_spec.specs.Guarded.{Place, Time, Atom, Guarded}
use Rattle.sp_spec_system.specs.System.{Event, System, happening_actions}
use Rattle.sp_spec_formula.specs.Instances.{Slots, matched_action, instance_by}
use Rattle.sp_spec_formula.specs.Instantiate.{if_new}

abbrev pub with_match : Option Slots → List Slots → List Slots
with_match None later = later
with_match (Some s) later = s ∷ later

-- with the actions of an event at a time
abbrev pub matches_at : Slots → Action Place → Time → ℕ → List (Action Variable) → List Slots
matches_at s a i p [] = []
matches_at s a i p (b ∷ bs) = with_match (matched_action s a i b p) (matches_at s a i p bs)

abbrev pub matches : Slots → Action Place → Time → List Event → List Slots
matches s a i [] = []
matches s a i (e ∷ es) = matches_at s a i e.time (happening_actions e.happening) ++ matches s a i es

-- the instance, if it is new
abbrev pub finished : System → List Atom → Guarded → Slots → Option Guarded
finished s guard f slots = if_new s (instance_by guard f slots)
