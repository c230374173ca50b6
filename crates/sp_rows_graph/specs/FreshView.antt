-- The Fr of a premise or of an event, and what is missing for it.
use Rattle.std.specs.Prelude.{ℕ, Bool, true, false, ◌||◌, List, [], ◌∷◌, Option, Some, None, if◌then◌else◌}
use Rattle.sp_spec.specs.Term.{Variable, Term, Terms, none, more}
use Rattle.sp_spec.specs.Rule.{Fact}
use Rattle.sp_spec.specs.Log.{is_fr}
use Rattle.sp_spec_system.specs.System.{own_name, Happening, rule_step, learning, System}
use Rattle.sp_spec_system.specs.Picked.{if_any}
use Rattle.sp_spec_graph.specs.Fresh.{fresh_terms}
use Rattle.sp_spec_know.specs.FreshFirst.{missing_pairs}

-- the pairs that put the time before each event that has the term later, if some are missing
abbrev pub missing_with : System → ℕ → Term Variable → Option (List (ℕ × ℕ))
missing_with s i t = if_any (missing_pairs s.order i t s.events)

abbrev pub first_of : Terms Variable → Option (Term Variable)
first_of none = None
first_of (more t ts) = Some t

-- the term whose Fr a premise uses
abbrev pub fresh_one : Fact Variable → Option (Term Variable)
fresh_one f = if is_fr f then first_of f.args else None

-- what is learnt as a name of the adversary's own
abbrev pub own_one : Happening → Option (Term Variable)
own_one (learning m own_name) = Some m
own_one h = None

-- that name, or what the premises use where there is none
abbrev pub fresh_behind : Option (Term Variable) → List (Fact Variable) → List (Term Variable)
fresh_behind (Some m) premises = m ∷ []
fresh_behind None premises = fresh_terms premises

-- some premise is an Fr
abbrev pub takes_fr : List (Fact Variable) → Bool
takes_fr [] = false
takes_fr (f ∷ fs) = is_fr f || takes_fr fs

-- a step with such a premise, or a name of the adversary's own: nothing else uses an Fr
abbrev pub may_use_fresh : Happening → Bool
may_use_fresh (rule_step r facts) = takes_fr facts.premises
may_use_fresh (learning m own_name) = true
may_use_fresh h = false
