-- What the functions of this crate give, in parts of the written move.
use Rattle.std.specs.Prelude.{ℕ, List, [], ◌∷◌, if◌then◌else◌, Option, Some, None, option_map, bytes_eq, codes}
use Rattle.sp_spec.specs.Term.{Variable, Term}
use Rattle.sp_spec.specs.Rule.{Action}
use Rattle.sp_spec.specs.Guarded.{Guarded, holds, acts, free_time}
use Rattle.sp_spec_system.specs.Formulas.{freed_action}
use Rattle.sp_spec_system.specs.System.{System, sending, learning, anyhow}
use Rattle.sp_spec_system.specs.Move.{Case}
use Rattle.sp_spec_formula.specs.Action.{by_actions, with_step, by_forms, done_there}
use Rattle.sp_spec_system.specs.Cases.{renamed, named}
use Rattle.sp_spec_forms.specs.Numbering.{Form}
use Rattle.sp_spec_forms.specs.Forms.{RuleForms}

-- an action, with its time
abbrev pub timed : ℕ → Action Variable → ℕ × Action Variable
timed i a = (i, a)

-- the action whose event can be looked for, with its time
abbrev pub sought : Guarded → Option (ℕ × Action Variable)
sought (holds (acts a (free_time i))) = option_map (timed i) (freed_action a)
sought f = None

-- the systems with a new step by one form of a rule
abbrev pub by_form : List ℕ → Form → System → ℕ → Action Variable → List System
by_form name form s i a = by_actions (with_step s i name form) a (renamed s.next form.facts).actions

-- the cases of a new step of one rule
abbrev pub by_rule : RuleForms → System → ℕ → Action Variable → List Case
by_rule r s i a = named r.name (by_forms r.name r.forms s i a)

-- the case in which the adversary does what the name says with the message
abbrev pub by_message : System → ℕ → List ℕ → Term Variable → List Case
by_message s i symbol m =
    if bytes_eq symbol (codes "K") then done_there (codes "Send") s i (sending m) ∷ []
    else if bytes_eq symbol (codes "KU") then done_there (codes "Learn") s i (learning m anyhow) ∷ []
    else []

abbrev pub by_only : System → ℕ → List ℕ → Option (Term Variable) → List Case
by_only s i symbol None = []
by_only s i symbol (Some m) = by_message s i symbol m
