-- The formulas with which the cases of an induction begin, by computation.
use Rattle.std.proofs.Common.{◌≡◌, List, [], ◌∷◌, refl}
use Rattle.sp_spec.specs.Rule.{Action}
use Rattle.sp_spec.specs.Guarded.{Place, bound_time, time, acts, before, last, Guarded, falsity, holds, fails, all_of, one_of, some, every, no_more, and_then}
use Rattle.sp_law_guard.specs.GuardedForm.{negate}
use Rattle.sp_law_induction.specs.Covering.{induction_form}
use Rattle.sp_spec_system.specs.Move.{InductionCases}
use Rattle.sp_law_inductive.specs.Cases.{cases_of}

module _ (a b c : Action Place) (taken : Guarded) where
  -- All #i. A@i ==> F: it is safe
  abbrev never : Guarded
  never = every (time ∷ []) (acts a (bound_time 0) ∷ []) falsity

  -- All #i. B@i ==> Ex #j. A@j & i < j: it looks ahead
  abbrev ends : Guarded
  ends = every (time ∷ []) (acts b (bound_time 0) ∷ []) (some (time ∷ []) (acts a (bound_time 0) ∷ []) (holds (before (bound_time 1) (bound_time 0))))

  -- Ex #i. B@i & All #j. A@j ==> not i < j
  abbrev not_ends : Guarded
  not_ends = some (time ∷ []) (acts b (bound_time 0) ∷ []) (every (time ∷ []) (acts a (bound_time 0) ∷ []) (fails (before (bound_time 1) (bound_time 0))))

  -- All #i. C@i ==> F
  abbrev lemma : Guarded
  lemma = every (time ∷ []) (acts c (bound_time 0) ∷ []) falsity

  abbrev restrictions : List Guarded
  restrictions = ends ∷ never ∷ []

  abbrev both : InductionCases
  both = cases_of restrictions (taken ∷ []) lemma

  -- the disjunction has the negated restriction first, and the lemma last
  form_is : induction_form restrictions lemma ≡ one_of (and_then not_ends (and_then lemma no_more))
  form_is = refl

  -- safe restrictions first, then what is taken, then the negation and the hypothesis
  empty_is : both.empty_trace ≡ never ∷ taken ∷ negate (induction_form restrictions lemma) ∷ []
  empty_is = refl

  -- the times of the hypothesis: not the last where there is one, and the last or else where it is said of each
  non_empty_is : both.non_empty_trace ≡ never ∷ taken ∷ negate (induction_form restrictions lemma) ∷ one_of (and_then
      (some (time ∷ []) (acts b (bound_time 0) ∷ []) (all_of (and_then
      (every (time ∷ []) (acts a (bound_time 0) ∷ []) (one_of (and_then (holds (last (bound_time 0))) (and_then (fails (before (bound_time 1) (bound_time 0))) no_more))))
      (and_then (fails (last (bound_time 0))) no_more))))
      (and_then (every (time ∷ []) (acts c (bound_time 0) ∷ []) (one_of (and_then (holds (last (bound_time 0))) (and_then falsity no_more)))) no_more)) ∷ []
  non_empty_is = refl
