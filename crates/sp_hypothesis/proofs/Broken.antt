-- The negations that were put one behind the other stand in front of a lemma as its induction has them.
use Rattle.std.proofs.Common.{◌≡◌, refl, sym, ap, ◌∙◌, Bool, true, false, if◌then◌else◌, List, [], ◌∷◌, ◌++◌, append_assoc, Option, None, Some}
use Rattle.sp_spec.specs.Guarded.{Guarded, one_of, guardeds_of}
use Rattle.sp_spec.proofs.Guardeds.{parts_so}
use Rattle.sp_law_guard.specs.GuardedForm.{negate, disjuncts, disjunction}
use Rattle.sp_law_induction.specs.Hypothesis.{is_safety}
use Rattle.sp_law_induction.specs.Covering.{others_among, inductive, induction_form}
use Rattle.sp_hypothesis.specs.Broken.{joined, broken_after}

regrouped : (before : Option Guarded) (g h : Guarded) → disjunction (joined before g) h ≡ joined before (disjunction g h)
regrouped None g h = refl
regrouped (Some f) g h =
    ap (λ (gs : List Guarded). one_of (guardeds_of (gs ++ disjuncts h))) (parts_so (disjuncts f ++ disjuncts g))
    ∙ ap (λ (gs : List Guarded). one_of (guardeds_of gs)) (append_assoc (disjuncts f) (disjuncts g) (disjuncts h))
    ∙ sym (ap (λ (gs : List Guarded). one_of (guardeds_of (disjuncts f ++ gs))) (parts_so (disjuncts g ++ disjuncts h)))

abbrev StandsBefore : Option Guarded → Option Guarded → List Guarded → Guarded → Type 0
StandsBefore after before others g = joined after g ≡ joined before (inductive others g)

stands_before : (fs : List Guarded) (before : Option Guarded) (g : Guarded) → StandsBefore (broken_after before fs) before (others_among fs) g
stands_before [] before g = refl
stands_before (f ∷ fs) before g =
    at (is_safety f) (stands_before fs before g)
    (stands_before fs (Some (joined before (negate f))) g ∙ regrouped before (negate f) (inductive (others_among fs) g))
  where
    at : (b : Bool) → StandsBefore (broken_after before fs) before (others_among fs) g → StandsBefore (broken_after (Some (joined before (negate f))) fs) before (f ∷ others_among fs) g
        → StandsBefore (if b then broken_after before fs else broken_after (Some (joined before (negate f))) fs) before (if b then others_among fs else f ∷ others_among fs) g
    at true safe other = safe
    at false safe other = other

pub shown_by_induction : (fs : List Guarded) (g : Guarded) → joined (broken_after None fs) g ≡ induction_form fs g
shown_by_induction fs g = stands_before fs None g
