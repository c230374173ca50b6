-- What the added disjuncts and conjuncts make of a body.
use Rattle.std.proofs.Common.{◌⊎◌, ℕ, zero, suc, ◌<◌, List, [], ◌∷◌, ◌≡◌, length, inl, inr, arith}
use Rattle.sp_spec.specs.Signature.{Signature}
use Rattle.sp_spec.specs.Execution.{Trace}
use Rattle.sp_spec.specs.Guarded.{Binder, message, time, Guarded, all_of, one_of, Assignment, GuardedHolds, EachHolds, SomeHolds, guardeds_of}
use Rattle.sp_law_truth.specs.Shown.{times_within}
use Rattle.sp_law_truth.proofs.Stable.{classically}
use Rattle.sp_law_truth.proofs.StableGuarded.{stable_guarded}
use Rattle.sp_law_guard.proofs.Joined.{conjunction_both, disjunction_either}
use Rattle.sp_law_induction.specs.Hypothesis.{lasts, not_lasts, or_else, and_also}

-- the n innermost times are positions of the first so many entries
abbrev pub AreBelow : ℕ → ℕ → Assignment → Type 0
AreBelow size n m = (k : ℕ) → k < n → m.bound_times k < size

pub times_rise : (bs : List Binder) (j k : ℕ) → j < k → times_within bs j < times_within bs k
times_rise [] j k l = l
times_rise (message sort ∷ bs) j k l = times_rise bs j k l
times_rise (time ∷ bs) j k l = times_rise bs (suc j) (suc k) (omega (arith, l))

module _ (signature : Signature) (trace : Trace) (m : Assignment) where
  abbrev Holds : Guarded → Type 0
  Holds g = GuardedHolds signature trace m g

  pub or_by_added : (ps : List Guarded) (g : Guarded) → SomeHolds signature trace m (guardeds_of ps) → Holds (or_else ps g)
  or_by_added [] g h = absurd h
  or_by_added (p ∷ ps) g h = (disjunction_either signature trace m (one_of (guardeds_of (p ∷ ps))) g).1 (λ none. none (inl (λ k. k h)))

  pub or_by_body : (ps : List Guarded) (g : Guarded) → Holds g → Holds (or_else ps g)
  or_by_body [] g h = h
  or_by_body (p ∷ ps) g h = (disjunction_either signature trace m (one_of (guardeds_of (p ∷ ps))) g).1 (λ none. none (inr h))

  pub or_body : (ps : List Guarded) (g : Guarded) → (SomeHolds signature trace m (guardeds_of ps) → ⊥) → Holds (or_else ps g) → Holds g
  or_body [] g lacks h = h
  or_body (p ∷ ps) g lacks h =
      stable_guarded signature trace m g (classically at ((disjunction_either signature trace m (one_of (guardeds_of (p ∷ ps))) g).0 h))
    where
      at : Holds (one_of (guardeds_of (p ∷ ps))) ⊎ Holds g → Holds g
      at (inl x) = absurd (x lacks)
      at (inr x) = x

  pub and_both : (ps : List Guarded) (g : Guarded) → Holds g → EachHolds signature trace m (guardeds_of ps) → Holds (and_also g ps)
  and_both [] g h k = h
  and_both (p ∷ ps) g h k = (conjunction_both signature trace m g (all_of (guardeds_of (p ∷ ps)))).1 (h, k)

  pub and_body : (ps : List Guarded) (g : Guarded) → Holds (and_also g ps) → Holds g
  and_body [] g h = h
  and_body (p ∷ ps) g h = ((conjunction_both signature trace m g (all_of (guardeds_of (p ∷ ps)))).0 h).0

  pub and_added : (ps : List Guarded) (g : Guarded) → Holds (and_also g ps) → EachHolds signature trace m (guardeds_of ps)
  and_added [] g h = tt
  and_added (p ∷ ps) g h = ((conjunction_both signature trace m g (all_of (guardeds_of (p ∷ ps)))).0 h).1

  -- no time below the last position is the last
  pub none_last : (size n : ℕ) (bs : List Binder) → length trace ≡ suc size → AreBelow size (times_within bs n) m → SomeHolds signature trace m (guardeds_of (lasts bs)) → ⊥
  none_last size n [] e b h = h
  none_last size n (message sort ∷ bs) e b h = none_last size n bs e b h
  none_last size n (time ∷ bs) e b (inl h) = h (λ x. let l = b (times_within bs zero) (times_rise bs zero (suc n) (omega arith)) in omega (arith, x, l, e))
  none_last size n (time ∷ bs) e b (inr h) = none_last size (suc n) bs e b h

  pub all_not_last : (size n : ℕ) (bs : List Binder) → length trace ≡ suc size → AreBelow size (times_within bs n) m → EachHolds signature trace m (guardeds_of (not_lasts bs))
  all_not_last size n [] e b = tt
  all_not_last size n (message sort ∷ bs) e b = all_not_last size n bs e b
  all_not_last size n (time ∷ bs) e b =
      ((λ h. h (λ x. let l = b (times_within bs zero) (times_rise bs zero (suc n) (omega arith)) in omega (arith, x, l, e))), all_not_last size (suc n) bs e b)
