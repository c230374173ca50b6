-- Quantifiers over the longer trace, where a time may be its last position.
use Rattle.std.proofs.Common.{◌≡◌, ◌⊎◌, ℕ, zero, suc, ◌<◌, ◌≤◌, List, [], ◌∷◌, length, inl, inr, arith}
use Rattle.std.proofs.lemmas.Bool.{cases_lt}
use Rattle.sp_spec.specs.Signature.{Signature}
use Rattle.sp_spec.specs.Execution.{Trace}
use Rattle.sp_spec.specs.Guarded.{Binder, message, time, Assignment, with_term, with_time, SomeValues, EachValues, SomeHolds, EachHolds, guardeds_of}
use Rattle.sp_law_truth.specs.Shown.{times_within}
use Rattle.sp_law_truth.proofs.Stable.{classically}
use Rattle.sp_law_induction.specs.Hypothesis.{lasts, not_lasts}
use Rattle.sp_law_induction.proofs.Parts.{AreBelow}
use Rattle.sp_law_induction.proofs.Past.{with_time_below}

module _ (signature : Signature) (trace : Trace) (size : ℕ) (long : length trace ≡ suc size) (P Q : Assignment → Type 0) where
  -- the time of that place is the last position, whatever is bound within
  all_at : (range : ℕ) (bs : List Binder) (k : ℕ) → ((w : Assignment) → w.bound_times (times_within bs k) ≡ size → P w)
      → (m : Assignment) → m.bound_times k ≡ size → EachValues signature range bs P m
  all_at range [] k leaf m e = leaf m e
  all_at range (message sort ∷ bs) k leaf m e = λ t s. all_at range bs k leaf (with_term t m) e
  all_at range (time ∷ bs) k leaf m e = λ p l. all_at range bs (suc k) leaf (with_time p m) e

  none_at : (range : ℕ) (bs : List Binder) (k : ℕ) → ((w : Assignment) → w.bound_times (times_within bs k) ≡ size → P w → ⊥)
      → (m : Assignment) → m.bound_times k ≡ size → SomeValues signature range bs P m → ⊥
  none_at range [] k leaf m e h = leaf m e h
  none_at range (message sort ∷ bs) k leaf m e h = h (λ x. none_at range bs k leaf (with_term x.0 m) e x.2)
  none_at range (time ∷ bs) k leaf m e h = h (λ x. none_at range bs (suc k) leaf (with_time x.0 m) e x.2)

  pub each_back : (n : ℕ) (bs : List Binder) → ((w : Assignment) → AreBelow size (times_within bs n) w → Q w → P w)
      → ((w : Assignment) → SomeHolds signature trace w (guardeds_of (lasts bs)) → P w)
      → (m : Assignment) → AreBelow size n m → EachValues signature size bs Q m → EachValues signature (suc size) bs P m
  each_back n [] leaf escape m b h = leaf m b h
  each_back n (message sort ∷ bs) leaf escape m b h = λ t s. each_back n bs leaf escape (with_term t m) b (h t s)
  each_back n (time ∷ bs) leaf escape m b h =
      λ p l. at p l (λ x. each_back (suc n) bs leaf (λ w s. escape w (inr s)) (with_time p m) (with_time_below size n m b p x) (h p x)) (cases_lt p size)
    where
      at : (p : ℕ) → p < suc size → (p < size → EachValues signature (suc size) bs P (with_time p m)) → (p < size) ⊎ (size ≤ p) → EachValues signature (suc size) bs P (with_time p m)
      at p l below (inl x) = below x
      at p l below (inr y) = all_at (suc size) bs zero (λ w e. escape w (inl (λ none. none (omega (arith, e, long))))) (with_time p m) (omega (arith, l, y))

  pub some_forth : (n : ℕ) (bs : List Binder) → ((w : Assignment) → AreBelow size (times_within bs n) w → P w → Q w)
      → ((w : Assignment) → P w → EachHolds signature trace w (guardeds_of (not_lasts bs)))
      → (m : Assignment) → AreBelow size n m → SomeValues signature (suc size) bs P m → SomeValues signature size bs Q m
  some_forth n [] leaf refuse m b h = leaf m b h
  some_forth n (message sort ∷ bs) leaf refuse m b h = classically (λ x. (x.0, x.1, some_forth n bs leaf refuse (with_term x.0 m) b x.2)) h
  some_forth n (time ∷ bs) leaf refuse m b h =
      λ none. h (λ x. at x.0 x.1 x.2 (λ y. none (x.0, y, some_forth (suc n) bs leaf (λ w z. (refuse w z).1) (with_time x.0 m) (with_time_below size n m b x.0 y) x.2)) (cases_lt x.0 size))
    where
      at : (p : ℕ) → p < suc size → SomeValues signature (suc size) bs P (with_time p m) → (p < size → ⊥) → (p < size) ⊎ (size ≤ p) → ⊥
      at p l s below (inl x) = below x
      at p l s below (inr y) = none_at (suc size) bs zero (λ w e z. (refuse w z).0 (λ none. none (omega (arith, e, long)))) (with_time p m) (omega (arith, l, y)) s
