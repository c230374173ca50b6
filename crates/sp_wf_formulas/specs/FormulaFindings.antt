-- The findings on the formula of a lemma, or of a restriction that is seen as one, each where its condition holds, from left to right.
-- Source: Tamarin manual, "Checking well-formedness"; CSF 2012, "Guarded trace properties" (guarded variables).
use Rattle.std.specs.Prelude.{ℕ, Bool, true, false, ◌&&◌, ◌||◌, not, if◌then◌else◌, List, [], ◌∷◌, ◌++◌, Option, Some, None}
use Rattle.sp_spec.specs.Formula.{Written, Formula, truth, falsity, happens, equals, precedes, not_so, both, either, implies, for_all, for_some}
use Rattle.sp_spec.specs.Signature.{Symbol, Equation}
use Rattle.sp_spec.specs.Theory.{Restriction, Lemma}
use Rattle.sp_spec.specs.Verdict.{names_learning}
use Rattle.sp_spec.specs.Written.{in_term, in_terms}
use Rattle.sp_spec.specs.Findings.{is_wide}
use Rattle.sp_spec.specs.Guarded.{Time}
use Rattle.sp_law_guard.specs.GuardedForm.{Meant, a_message, a_time, meant, term_time}
use Rattle.sp_law_guard.specs.CheckedForm.{fits}
use Rattle.sp_guard.specs.Unguarded.{first_unguarded}
use Rattle.sp_finding.specs.Finding.{Finding, arity_above, without_binder, not_guarded, destructor_in_formula, other_sort, mixed_at, restricts_learning, told, are_none}
use Rattle.sp_finding.specs.TermFindings.{unknown_in, unknown_in_all, has_destructor, have_destructor}

-- symbols that aren't there
abbrev pub unknown_in_formula : List Symbol → Formula → List Finding
unknown_in_formula symbols truth = []
unknown_in_formula symbols falsity = []
unknown_in_formula symbols (happens a i) = unknown_in_all symbols a.args
unknown_in_formula symbols (equals t u) = unknown_in symbols t ++ unknown_in symbols u
unknown_in_formula symbols (precedes i j) = []
unknown_in_formula symbols (not_so f) = unknown_in_formula symbols f
unknown_in_formula symbols (both f g) = unknown_in_formula symbols f ++ unknown_in_formula symbols g
unknown_in_formula symbols (either f g) = unknown_in_formula symbols f ++ unknown_in_formula symbols g
unknown_in_formula symbols (implies f g) = unknown_in_formula symbols f ++ unknown_in_formula symbols g
unknown_in_formula symbols (for_all x f) = unknown_in_formula symbols f
unknown_in_formula symbols (for_some x f) = unknown_in_formula symbols f

-- an action of more than sixteen arguments
abbrev pub wide_in : Formula → List Finding
wide_in truth = []
wide_in falsity = []
wide_in (happens a i) = told (is_wide a.args) (arity_above a.symbol) []
wide_in (equals t u) = []
wide_in (precedes i j) = []
wide_in (not_so f) = wide_in f
wide_in (both f g) = wide_in f ++ wide_in g
wide_in (either f g) = wide_in f ++ wide_in g
wide_in (implies f g) = wide_in f ++ wide_in g
wide_in (for_all x f) = wide_in f
wide_in (for_some x f) = wide_in f

-- What has to stand at a place: a message in a term, and a time at an action and round `<`.
pub data Role : Type 0 where
  as_message : Role
  as_time : Role

-- a variable where it is used, and what its name means there
pub record Use : Type 0 where
  pub variable : Written
  pub means : Option Meant
  pub role : Role

abbrev pub uses_as : Role → List Written → List Written → List Use
uses_as role bs [] = []
uses_as role bs (x ∷ xs) = record { variable = x; means = meant bs x.name; role = role } ∷ uses_as role bs xs

-- an equation is one of times where both sides are, and else one of messages
abbrev pub role_of : Option Time → Option Time → Role
role_of (Some i) (Some j) = as_time
role_of (Some i) None = as_message
role_of None j = as_message

-- within the reach of these binders, the innermost first
abbrev pub uses : List Written → Formula → List Use
uses bs truth = []
uses bs falsity = []
uses bs (happens a i) = uses_as as_message bs (in_terms a.args) ++ uses_as as_time bs (i ∷ [])
uses bs (equals t u) = uses_as (role_of (term_time bs t) (term_time bs u)) bs (in_term t ++ in_term u)
uses bs (precedes i j) = uses_as as_time bs (i ∷ j ∷ [])
uses bs (not_so f) = uses bs f
uses bs (both f g) = uses bs f ++ uses bs g
uses bs (either f g) = uses bs f ++ uses bs g
uses bs (implies f g) = uses bs f ++ uses bs g
uses bs (for_all x f) = uses (x ∷ bs) f
uses bs (for_some x f) = uses (x ∷ bs) f

abbrev pub is_unbound : Option Meant → Bool
is_unbound None = true
is_unbound (Some m) = false

-- judged by the binder, whatever the mark
abbrev pub is_mixed : Role → Option Meant → Bool
is_mixed as_message (Some (a_time k)) = true
is_mixed as_message (Some (a_message mark k)) = false
is_mixed as_message None = false
is_mixed as_time (Some (a_message mark k)) = true
is_mixed as_time (Some (a_time k)) = false
is_mixed as_time None = false

abbrev pub unbound_uses : List ℕ → List Use → List Finding
unbound_uses n [] = []
unbound_uses n (u ∷ us) = told (is_unbound u.means) (without_binder n u.variable.name) (unbound_uses n us)

abbrev pub other_uses : List ℕ → List Use → List Finding
other_uses n [] = []
other_uses n (u ∷ us) = told (not (fits u.variable.mark u.means)) (other_sort n u.variable.name) (other_uses n us)

abbrev pub mixed_uses : List ℕ → List Use → List Finding
mixed_uses n [] = []
mixed_uses n (u ∷ us) = told (is_mixed u.role u.means) (mixed_at n u.variable.name) (mixed_uses n us)

abbrev pub wide_in_lemma : Lemma → List Finding
wide_in_lemma l = wide_in l.formula

abbrev pub unbound_in_lemma : Lemma → List Finding
unbound_in_lemma l = unbound_uses l.name (uses [] l.formula)

abbrev pub sorts_in_lemma : Lemma → List Finding
sorts_in_lemma l = other_uses l.name (uses [] l.formula)

abbrev pub mixed_in_lemma : Lemma → List Finding
mixed_in_lemma l = mixed_uses l.name (uses [] l.formula)

-- destructors
abbrev pub formula_has_destructor : List Equation → Formula → Bool
formula_has_destructor es truth = false
formula_has_destructor es falsity = false
formula_has_destructor es (happens a i) = have_destructor es a.args
formula_has_destructor es (equals t u) = has_destructor es t || has_destructor es u
formula_has_destructor es (precedes i j) = false
formula_has_destructor es (not_so f) = formula_has_destructor es f
formula_has_destructor es (both f g) = formula_has_destructor es f || formula_has_destructor es g
formula_has_destructor es (either f g) = formula_has_destructor es f || formula_has_destructor es g
formula_has_destructor es (implies f g) = formula_has_destructor es f || formula_has_destructor es g
formula_has_destructor es (for_all x f) = formula_has_destructor es f
formula_has_destructor es (for_some x f) = formula_has_destructor es f

abbrev pub destructors_in_lemma : List Equation → Lemma → List Finding
destructors_in_lemma es l = told (formula_has_destructor es l.formula) (destructor_in_formula l.name) []

abbrev pub unguarded_at : List ℕ → Option (List ℕ) → List Finding
unguarded_at n None = []
unguarded_at n (Some x) = not_guarded n x ∷ []

-- the first unguarded variable, looked for in a formula without destructors and without the other findings on variables
abbrev pub unguarded_in_lemma : List Equation → Lemma → List Finding
unguarded_in_lemma es l =
    if are_none (destructors_in_lemma es l) && (are_none (unbound_in_lemma l) && (are_none (sorts_in_lemma l) && are_none (mixed_in_lemma l)))
    then unguarded_at l.name (first_unguarded l.formula) else []

-- a restriction names the action of learning
abbrev pub learning_in_restriction : Restriction → List Finding
learning_in_restriction r = told (names_learning r.formula) (restricts_learning r.name) []
