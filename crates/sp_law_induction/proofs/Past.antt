-- Atoms and quantifiers over a trace and over the trace without its newest entry.
use Rattle.std.proofs.Common.{ℕ, zero, suc, ◌<◌, List, [], ◌∷◌, length, inl, inr, arith}
use Rattle.std.specs.Prelude.{◌↔◌}
use Rattle.sp_spec.specs.Lists.{AtPosition}
use Rattle.sp_spec.specs.Signature.{Signature, Equation}
use Rattle.sp_spec.specs.Rule.{Action}
use Rattle.sp_spec.specs.Execution.{Trace}
use Rattle.sp_spec.specs.Truth.{Acts}
use Rattle.sp_spec.specs.Guarded.{Time, free_time, bound_time, Binder, message, time, Atom, acts, same, same_time, before}
use Rattle.sp_spec.specs.Guarded.{last, Assignment, with_term, with_time, action_in, time_in, AtomHolds, AtomsHold, SomeValues, EachValues}
use Rattle.sp_law_truth.specs.Shown.{times_within, IsBound, IsTimedAtom, AreTimedAtoms}
use Rattle.sp_law_truth.proofs.Stable.{classically}
use Rattle.sp_law_truth.proofs.AsTrue.{as_itself, as_both, as_classically}
use Rattle.sp_law_induction.proofs.Parts.{AreBelow}

pub with_time_below : (size n : ℕ) (m : Assignment) → AreBelow size n m → (p : ℕ) → p < size → AreBelow size (suc n) (with_time p m)
with_time_below size n m b p l zero k = l
with_time_below size n m b p l (suc j) k = b j (omega (arith, k))

acts_before : (es : List Equation) (entry : List (Action ⊥)) (past : Trace) (p : ℕ) (a : Action ⊥) → p < length past → Acts es (entry ∷ past) p a ↔ Acts es past p a
acts_before es entry past p a l = ((λ h. (h.0, at h.1, h.2, h.3, h.4)), (λ h. (h.0, inr h.1, h.2, h.3, h.4)))
  where
    at : {e : List (Action ⊥)} → AtPosition (entry ∷ past) p e → AtPosition past p e
    at (inl x) = let e = x.0 in absurd (omega (arith, e, l))
    at (inr x) = x

bound_below : (size n : ℕ) (m : Assignment) → AreBelow size n m → (i : Time) → IsBound n i → time_in m i < size
bound_below size n m b (free_time i) h = absurd h
bound_below size n m b (bound_time k) h = b k h

module _ (signature : Signature) (entry : List (Action ⊥)) (past : Trace) where
  pub atom_before : (n : ℕ) (a : Atom) → IsTimedAtom n a → (m : Assignment) → AreBelow (length past) n m → AtomHolds signature (entry ∷ past) m a ↔ AtomHolds signature past m a
  atom_before n (acts a i) t m b = as_classically (acts_before signature.equations entry past (time_in m i) (action_in m a) (bound_below (length past) n m b i t))
  atom_before n (same t u) x m b = as_itself
  atom_before n (same_time i j) t m b = as_itself
  atom_before n (before i j) t m b = as_itself
  atom_before n (last i) t m b = absurd t

  pub atoms_before : (n : ℕ) (guard : List Atom) → AreTimedAtoms n guard → (m : Assignment) → AreBelow (length past) n m
      → AtomsHold signature (entry ∷ past) m guard ↔ AtomsHold signature past m guard
  atoms_before n [] t m b = as_itself
  atoms_before n (a ∷ guard) t m b = as_both (atom_before n a t.0 m b) (atoms_before n guard t.1 m b)

module _ (signature : Signature) (P Q : Assignment → Type 0) where
  -- what is so for each value in the longer trace is so for each in the shorter
  pub each_forth : (size n : ℕ) (bs : List Binder) → ((w : Assignment) → AreBelow size (times_within bs n) w → P w → Q w)
      → (m : Assignment) → AreBelow size n m → EachValues signature (suc size) bs P m → EachValues signature size bs Q m
  each_forth size n [] leaf m b h = leaf m b h
  each_forth size n (message sort ∷ bs) leaf m b h = λ t s. each_forth size n bs leaf (with_term t m) b (h t s)
  each_forth size n (time ∷ bs) leaf m b h = λ p l. each_forth size (suc n) bs leaf (with_time p m) (with_time_below size n m b p l) (h p (omega (arith, l)))

  pub some_back : (size n : ℕ) (bs : List Binder) → ((w : Assignment) → AreBelow size (times_within bs n) w → Q w → P w)
      → (m : Assignment) → AreBelow size n m → SomeValues signature size bs Q m → SomeValues signature (suc size) bs P m
  some_back size n [] leaf m b h = leaf m b h
  some_back size n (message sort ∷ bs) leaf m b h = classically (λ x. (x.0, x.1, some_back size n bs leaf (with_term x.0 m) b x.2)) h
  some_back size n (time ∷ bs) leaf m b h =
      classically (λ x. let l = x.1 in (x.0, omega (arith, l), some_back size (suc n) bs leaf (with_time x.0 m) (with_time_below size n m b x.0 l) x.2)) h
