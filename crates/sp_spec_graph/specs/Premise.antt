-- The move on a premise: a new step of a rule that gives it. Source: CSF 2012, "Constraint solving" (the rule on premises).
use Rattle.std.specs.Prelude.{◌&&◌, Bool, ℕ, ◌==◌, ◌||◌, false, List, [], ◌∷◌, if◌then◌else◌, Option, Some, None, suc, ◌++◌}
use Rattle.sp_spec.specs.Rule.{Fact}
use Rattle.sp_spec_formula.specs.Action.{with_step}
use Rattle.sp_spec_system.specs.System.{Link, System, with_links, with_order, with_next}
use Rattle.sp_spec.specs.Log.{is_in, is_fr}
use Rattle.sp_spec.specs.Term.{Variable}
use Rattle.sp_spec_system.specs.MakingOne.{premise_at}
use Rattle.sp_spec_system.specs.Move.{Case}
use Rattle.sp_spec_system.specs.Cases.{renamed, system_if, where_same_fact, named}
use Rattle.sp_spec_forms.specs.Numbering.{Form}
use Rattle.sp_spec_forms.specs.Forms.{RuleForms}

abbrev pub is_linked : List Link → ℕ → ℕ → Bool
is_linked [] i p = false
is_linked (l ∷ ls) i p = (l.to == i) && (l.premise == p) || is_linked ls i p

-- a premise that is to have a step for its source: it is no Fr and no In, and has no link
abbrev pub of_a_step : Option (Fact Variable) → Option (Fact Variable)
of_a_step None = None
of_a_step (Some f) = if is_fr f || is_in f then None else Some f

abbrev pub open_premise : System → ℕ → ℕ → Option (Fact Variable)
open_premise s i p = if is_linked s.links i p then None else of_a_step (premise_at s.events i p)

-- the premise has its source in that conclusion of an event at the next number, which is before its own
abbrev pub awaiting : System → ℕ → ℕ → ℕ → System
awaiting s i p k = with_next (with_order (with_links s (s.links ++ record { from = s.next; conclusion = k; to = i; premise = p } ∷ [])) (s.order ++ (s.next, i) ∷ [])) (suc s.next)

-- a new step by a form of the rule of this name, at the next number, whose conclusion of that place is the premise
abbrev pub with_source : System → ℕ → ℕ → List ℕ → Form → ℕ → System
with_source s i p name form k = with_step (awaiting s i p k) s.next name form

-- each of a form's conclusions, from this place on, that may be the premise
abbrev pub by_conclusions : System → ℕ → ℕ → Fact Variable → List ℕ → Form → ℕ → List (Fact Variable) → List System
by_conclusions s i p f name form k [] = []
by_conclusions s i p f name form k (g ∷ gs) = system_if (where_same_fact (with_source s i p name form k) f g) ++ by_conclusions s i p f name form (suc k) gs

-- by each of these forms
abbrev pub source_forms : List ℕ → List Form → System → ℕ → ℕ → Fact Variable → List System
source_forms name [] s i p f = []
source_forms name (form ∷ forms) s i p f = by_conclusions s i p f name form 0 (renamed (suc s.next) form.facts).conclusions ++ source_forms name forms s i p f

-- by each rule
abbrev pub by_each_source : List RuleForms → System → ℕ → ℕ → Fact Variable → List Case
by_each_source [] s i p f = []
by_each_source (rule ∷ rules) s i p f = named rule.name (source_forms rule.name rule.forms s i p f) ++ by_each_source rules s i p f

abbrev pub premise_cases : List RuleForms → System → ℕ → ℕ → Option (Fact Variable) → Option (List Case)
premise_cases rules s i p None = None
premise_cases rules s i p (Some f) = Some (by_each_source rules s i p f)
