-- Instantiate: a universal formula. Source: CSF 2012, "Constraint solving" (the rule on universally quantified formulas).
use Rattle.std.specs.Prelude.{List, [], ◌∷◌, Option, option_and_then, ◌||◌, if◌then◌else◌, Some, None, ◌++◌, option_map}
use Rattle.sp_spec.specs.Guarded.{Atom, acts, Guarded, every}
use Rattle.sp_spec_formula.specs.Instances.{Slots, matched_action, empty_slots, instance_by}
use Rattle.sp_spec_system.specs.System.{Event, happening_actions, System, with_formulas}
use Rattle.sp_spec_system.specs.Picked.{first_some}
use Rattle.sp_spec_formula.specs.Disjunction.{is_a_formula}

-- Instantiate a universal: the body's first instance that is neither a formula nor spent. The guard's actions are matched in order, each
-- with the actions of the events in their order.
abbrev pub first_match : List Event → (Slots → Option Guarded) → List Atom → Slots → Option Guarded
first_match events finish [] s = finish s
first_match events finish (acts a i ∷ atoms) s =
    first_some (λ (e : Event). first_some (λ b. option_and_then (first_match events finish atoms) (matched_action s a i b e.time)) (happening_actions e.happening)) events
first_match events finish (atom ∷ atoms) s = first_match events finish atoms s

abbrev pub if_new : System → Option Guarded → Option Guarded
if_new s None = None
if_new s (Some f) = if is_a_formula s.formulas f || is_a_formula s.spent f then None else Some f

abbrev pub new_instance : System → Guarded → Option Guarded
new_instance s (every bs guard f) =
    first_match s.events (λ slots. if_new s (instance_by guard f slots)) guard (empty_slots bs (record { terms = []; times = [] }))
new_instance s f = None

abbrev pub with_formula : System → Guarded → System
with_formula s f = with_formulas s (s.formulas ++ f ∷ [])

abbrev pub instantiate : System → Option System
instantiate s = option_map (with_formula s) (first_some (new_instance s) s.formulas)
