-- The formulas of the two cases of a proof by induction. Source: Tamarin manual, "Advanced features" (induction); Meier's thesis, "Trace induction".
use Rattle.std.specs.Prelude.{◌≡◌, List, [], ◌∷◌, ◌++◌, Some}
use Rattle.sp_spec.specs.Guarded.{Guarded}
use Rattle.sp_law_guard.specs.GuardedForm.{negate}
use Rattle.sp_law_induction.specs.Hypothesis.{hypothesis}
use Rattle.sp_law_induction.specs.Covering.{safe_among, induction_form}
use Rattle.sp_spec_system.specs.Move.{InductionCases, Root}

-- The cases of a lemma with this guarded form: the safety restrictions and what is taken stand outside of the induction.
abbrev pub cases_of : List Guarded → List Guarded → Guarded → InductionCases
cases_of restrictions taken form =
    let f = induction_form restrictions form in
    let outside = safe_among restrictions ++ taken in
    record { empty_trace = outside ++ negate f ∷ []; non_empty_trace = outside ++ negate f ∷ hypothesis f ∷ [] }

-- the root has the cases of this form's induction, if it has any
abbrev pub HasCasesOf : Root → Guarded → Type 0
HasCasesOf r form = (i : InductionCases) → r.cases ≡ Some i → i ≡ cases_of r.restrictions r.taken form
