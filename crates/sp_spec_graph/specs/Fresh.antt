-- The terms of which an event uses the Fr.
use Rattle.std.specs.Prelude.{List, [], ◌∷◌, if◌then◌else◌, ◌++◌, ◌||◌, Bool, false}
use Rattle.sp_spec.specs.Term.{Variable, Term, Terms, none, more}
use Rattle.sp_spec.specs.Rule.{Fact}
use Rattle.sp_spec.specs.Log.{is_fr}
use Rattle.sp_spec_system.specs.System.{own_name, Happening, learning, happening_premises, Event}
use Rattle.sp_spec.specs.Same.{alike}

-- Fresh once: two events that use the same Fr are one.
abbrev pub first_term : Terms Variable → List (Term Variable)
first_term none = []
first_term (more t ts) = t ∷ []

abbrev pub fresh_terms : List (Fact Variable) → List (Term Variable)
fresh_terms [] = []
fresh_terms (f ∷ fs) = (if is_fr f then first_term f.args else []) ++ fresh_terms fs

-- a name of the adversary's own, or what the premises use
abbrev pub happening_fresh : Happening → List (Term Variable)
happening_fresh (learning m own_name) = m ∷ []
happening_fresh h = fresh_terms (happening_premises h)

abbrev pub stands_in : Term Variable → List (Term Variable) → Bool
stands_in t [] = false
stands_in t (u ∷ us) = alike t u || stands_in t us

abbrev pub share_one : List (Term Variable) → List (Term Variable) → Bool
share_one [] us = false
share_one (t ∷ ts) us = stands_in t us || share_one ts us

abbrev pub shares_fresh : Event → Event → Bool
shares_fresh e d = share_one (happening_fresh e.happening) (happening_fresh d.happening)
