-- The two cases of induction over a trace. Source: Meier's thesis, "Trace induction"; Tamarin manual, "Advanced features" (induction).
use Rattle.std.specs.Prelude.{List, [], ◌∷◌, if◌then◌else◌}
use Rattle.sp_spec.specs.Lists.{Every}
use Rattle.sp_spec.specs.Signature.{Signature}
use Rattle.sp_spec.specs.Execution.{Trace}
use Rattle.sp_spec.specs.Guarded.{Guarded, Assignment, GuardedHolds}
use Rattle.sp_law_guard.specs.GuardedForm.{negate, disjunction}
use Rattle.sp_law_induction.specs.Hypothesis.{hypothesis, is_safety}
use Rattle.sp_law_induction.specs.Prefix.{IsPrefix}

-- The safety restrictions, which hold of each prefix of a trace of which they hold; and the others, which may speak of what comes later.
abbrev pub safe_among : List Guarded → List Guarded
safe_among [] = []
safe_among (f ∷ fs) = if is_safety f then f ∷ safe_among fs else safe_among fs

abbrev pub others_among : List Guarded → List Guarded
others_among [] = []
others_among (f ∷ fs) = if is_safety f then others_among fs else f ∷ others_among fs

-- one of the restrictions is false, or the lemma is true, in one flat list
abbrev pub inductive : List Guarded → Guarded → Guarded
inductive [] lemma = lemma
inductive (f ∷ others) lemma = disjunction (negate f) (inductive others lemma)

-- what is shown by induction of a lemma with these restrictions
abbrev pub induction_form : List Guarded → Guarded → Guarded
induction_form restrictions lemma = inductive (others_among restrictions) lemma

-- the trace is empty, or the hypothesis is true over it
abbrev pub StartsOrFollows : Signature → Assignment → Guarded → Trace → Type 0
StartsOrFollows signature m f [] = Unit {0}
StartsOrFollows signature m f (entry ∷ past) = GuardedHolds signature (entry ∷ past) m (hypothesis f)

-- the prefix meets the restrictions and breaks the lemma, and what its case takes for granted is true over it
pub record IsCase (signature : Signature) (m : Assignment) (restrictions : List Guarded) (lemma : Guarded) (trace older : Trace) : Type 0 where
  pub prefix : IsPrefix older trace
  pub restrictions_true : Every (GuardedHolds signature older m) restrictions
  pub lemma_false : GuardedHolds signature older m lemma → ⊥
  pub negated : GuardedHolds signature older m (negate (induction_form restrictions lemma))
  pub start : StartsOrFollows signature m (induction_form restrictions lemma) older
