-- The move on a message that is learnt anyhow: it is constructed, or the adversary's own, or a chain leads to it from what some rule puts out. Source:
-- CSF 2012, "Constraint solving" (the rules on construction and on destruction chains); Schmidt's thesis, chapter 3.
use Rattle.std.specs.Prelude.{ℕ, suc, Bool, true, false, not, ◌&&◌, ◌||◌, if◌then◌else◌, is_none, List, [], ◌∷◌, ◌++◌, codes, Option, Some, None, option_map, option_and_then}
use Rattle.std.specs.Str.{bytes_eq}
use Rattle.sp_spec.specs.Term.{Sort, Msg, Fresh, Pub, Variable, Term, var, app, Terms, none, more, count}
use Rattle.sp_spec.specs.Signature.{Symbol}
use Rattle.sp_spec.specs.Rule.{Fact}
use Rattle.sp_spec.specs.Destruction.{is_public}
use Rattle.sp_spec_forms.specs.Numbering.{Form}
use Rattle.sp_spec_forms.specs.Forms.{RuleForms}
use Rattle.sp_spec_system.specs.System.{Way, anyhow, own_name, constructed, chain_begun, Happening, learning, Event, System, with_events, with_pairs, with_next}
use Rattle.sp_spec_system.specs.MakingOne.{learnt_by_at, event_at}
use Rattle.sp_spec_system.specs.Picked.{only_term}
use Rattle.sp_spec_system.specs.Cases.{renamed, system_if, named}
use Rattle.sp_spec_system.specs.Move.{Case}
use Rattle.sp_spec_system.specs.Rules.{Rules}
use Rattle.sp_spec_formula.specs.Action.{with_step}
use Rattle.sp_spec_know.specs.Learning.{with_event}
use Rattle.sp_spec_know.specs.SettleLearn.{settling}

-- ---- what is asked for

abbrev pub learnt_anyhow : Happening → Option (Term Variable)
learnt_anyhow (learning m anyhow) = Some m
learnt_anyhow h = None

abbrev pub is_message_sort : Sort → Bool
is_message_sort Msg = true
is_message_sort Fresh = false
is_message_sort Pub = false

-- any message may stand for the variable
abbrev pub is_message_variable : Term Variable → Bool
is_message_variable (var x) = is_message_sort x.sort
is_message_variable t = false

abbrev pub if_wanted : List Symbol → Term Variable → Option (Term Variable)
if_wanted symbols m = if is_message_variable m || not (is_none (settling symbols 0 m)) then None else Some m

-- the message that an event learns anyhow, if it is no message variable and isn't settled
abbrev pub wanted_at : List Symbol → System → ℕ → Option (Term Variable)
wanted_at symbols s i = option_and_then (λ (e : Event). option_and_then (if_wanted symbols) (learnt_anyhow e.happening)) (event_at i s.events)

-- ---- cases

abbrev pub with_way : System → ℕ → Way → System
with_way s i way = with_events s (learnt_by_at i way s.events)

-- new learnings of these messages, before that time
abbrev pub with_learnings : ℕ → Terms Variable → System → System
with_learnings i none s = s
with_learnings i (more t ts) s = with_learnings i ts (with_event (with_pairs s ((s.next, i) ∷ [])) (learning t anyhow))

-- a public symbol is applied to what was learnt before
abbrev pub made_case : List Symbol → System → ℕ → Term Variable → List Case
made_case symbols s i (app f ts) =
    if is_public symbols f (count ts) then record { name = codes "made"; system = with_learnings i ts (with_way s i constructed) } ∷ [] else []
made_case symbols s i m = []

abbrev pub own_if : System → ℕ → Sort → List Case
own_if s i Fresh = record { name = codes "own"; system = with_way s i own_name } ∷ []
own_if s i Msg = []
own_if s i Pub = []

abbrev pub own_case : System → ℕ → Term Variable → List Case
own_case s i (var x) = own_if s i x.sort
own_case s i m = []

-- the message that the fact puts out
abbrev pub put_out : Fact Variable → Option (Term Variable)
put_out f = if bytes_eq f.symbol (codes "Out") && not f.persistent then only_term f.args else None

-- a new step by a form of the rule of this name, at the next number and before that time, where a chain begins with what its conclusion of that place puts out
abbrev pub with_output : System → ℕ → List ℕ → Form → ℕ → Term Variable → System
with_output s i rule form k t =
    with_step (with_next (with_pairs (with_way s i (chain_begun s.next k (t ∷ []))) ((s.next, i) ∷ [])) (suc s.next)) s.next rule form

-- each of a form's conclusions, from this place on, that puts out something
abbrev pub by_outputs : System → ℕ → List ℕ → Form → ℕ → List (Fact Variable) → List System
by_outputs s i rule form k [] = []
by_outputs s i rule form k (g ∷ gs) = system_if (option_map (with_output s i rule form k) (put_out g)) ++ by_outputs s i rule form (suc k) gs

-- by each of these forms
abbrev pub output_forms : List ℕ → List Form → System → ℕ → List System
output_forms rule [] s i = []
output_forms rule (form ∷ forms) s i = by_outputs s i rule form 0 (renamed (suc s.next) form.facts).conclusions ++ output_forms rule forms s i

-- by each rule
abbrev pub by_each_output : List RuleForms → System → ℕ → List Case
by_each_output [] s i = []
by_each_output (rule ∷ rules) s i = named rule.name (output_forms rule.name rule.forms s i) ++ by_each_output rules s i

abbrev pub know_cases : Rules → System → ℕ → Option (List Case)
know_cases rules s i =
    option_map (λ m. made_case rules.signature.symbols s i m ++ (own_case s i m ++ by_each_output rules.forms s i)) (wanted_at rules.signature.symbols s i)
