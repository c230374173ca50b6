-- The move on an action: its event has it, or a new step of some rule, or the adversary sends or learns. Source: CSF 2012, "Constraint solving" (the rule on actions).
use Rattle.std.specs.Prelude.{ℕ, suc, List, [], ◌∷◌, ◌++◌, codes, decimal, ◌+◌, Option, Some, None, bytes_eq, if◌then◌else◌}
use Rattle.sp_spec.specs.Term.{Variable, Terms, none, more}
use Rattle.sp_spec.specs.Rule.{Action}
use Rattle.sp_spec_system.specs.System.{System, anyhow, Happening, rule_step, sending, learning, Event, happening_actions, with_events, with_next}
use Rattle.sp_spec_system.specs.Move.{Case}
use Rattle.sp_spec_system.specs.Cases.{where_same, case_if, renamed, system_if, named}
use Rattle.sp_spec_system.specs.MakingOne.{event_at, made_one}
use Rattle.sp_spec.specs.Guarded.{Guarded, holds, acts, free_time}
use Rattle.sp_spec_system.specs.Formulas.{freed_action}
use Rattle.sp_spec_forms.specs.Numbering.{Form}
use Rattle.sp_spec_forms.specs.Forms.{RuleForms}

-- each of an event's actions that may be this one, by its place
abbrev pub at_event : System → Action Variable → ℕ → List (Action Variable) → List Case
at_event s a n [] = []
at_event s a n (b ∷ bs) = case_if (codes "at_" ++ decimal n) (where_same s a b) ++ at_event s a (suc n) bs

-- a new step at that time by a form of the rule of this name
abbrev pub with_step : System → ℕ → List ℕ → Form → System
with_step s i name form =
    with_next (with_events s (s.events ++ record { time = i; happening = rule_step name (renamed s.next form.facts) } ∷ [])) (s.next + form.count)

-- each of a form's actions that may be this one
abbrev pub by_actions : System → Action Variable → List (Action Variable) → List System
by_actions s a [] = []
by_actions s a (b ∷ bs) = system_if (where_same s a b) ++ by_actions s a bs

-- by each of these forms
abbrev pub by_forms : List ℕ → List Form → System → ℕ → Action Variable → List System
by_forms name [] s i a = []
by_forms name (form ∷ forms) s i a = by_actions (with_step s i name form) a (renamed s.next form.facts).actions ++ by_forms name forms s i a

-- by each rule: its cases are those of its forms, one after the other
abbrev pub by_each : List RuleForms → System → ℕ → Action Variable → List Case
by_each [] s i a = []
by_each (rule ∷ rules) s i a = named rule.name (by_forms rule.name rule.forms s i a) ++ by_each rules s i a

-- a new event at that time at which the adversary does this
abbrev pub done_there : List ℕ → System → ℕ → Happening → Case
done_there named s i h = record { name = named; system = with_events s (s.events ++ record { time = i; happening = h } ∷ []) }

-- that a message is sent, or learnt
abbrev pub by_adversary : System → ℕ → List ℕ → Terms Variable → List Case
by_adversary s i symbol (more m none) =
    if bytes_eq symbol (codes "K") then done_there (codes "Send") s i (sending m) ∷ []
    else if bytes_eq symbol (codes "KU") then done_there (codes "Learn") s i (learning m anyhow) ∷ []
    else []
by_adversary s i symbol ts = []

-- each event of these, by its time: it is the one at this time
abbrev pub at_each : System → ℕ → List Event → List Case
at_each s i [] = []
at_each s i (e ∷ es) = case_if (codes "event_" ++ decimal e.time) (made_one s (i, e.time)) ++ at_each s i es

-- In a closed system nothing new happens.
abbrev pub action_cases : List RuleForms → System → ℕ → Action Variable → Option Event → List Case
action_cases rules s i a (Some e) = at_event s a 0 (happening_actions e.happening)
action_cases rules s i a None = if s.closed then at_each s i s.events else by_each rules s i a ++ by_adversary s i a.symbol a.args

abbrev pub action_at_time : List RuleForms → System → ℕ → Option (Action Variable) → Option (List Case)
action_at_time rules s i None = None
action_at_time rules s i (Some a) = Some (action_cases rules s i a (event_at i s.events))

-- an action at its event: each of the event's own actions, or what has it
abbrev pub solving_action : List RuleForms → System → Option Guarded → Option (List Case)
solving_action rules s (Some (holds (acts a (free_time i)))) = action_at_time rules s i (freed_action a)
solving_action rules s f = None
