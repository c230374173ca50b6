-- The negation is true exactly where the formula isn't.
use Rattle.std.proofs.Common.{List, [], ◌∷◌, length, inl, inr}
use Rattle.std.specs.Prelude.{◌↔◌}
use Rattle.sp_spec.specs.Lists.{Classically}
use Rattle.sp_spec.specs.Signature.{Signature}
use Rattle.sp_spec.specs.Execution.{Trace}
use Rattle.sp_spec.specs.Guarded.{Binder, Atom, acts, same, same_time, before, last, Guarded, Guardeds, truth, falsity, holds, fails, all_of, one_of, some, every, no_more, and_then, Assignment, AtomHolds, AtomsHold, GuardedHolds, EachHolds, SomeHolds}
use Rattle.sp_law_truth.proofs.StableGuarded.{stable_atom, stable_atoms, stable_guarded, stable_each}
use Rattle.sp_law_truth.proofs.Stable.{classically}
use Rattle.sp_law_truth.proofs.AsTrue.{as_itself}
use Rattle.sp_law_guard.specs.GuardedForm.{negated_atom, negate, negate_each}
use Rattle.sp_law_guard.proofs.Values.{each_not, some_not}

module _ (signature : Signature) (trace : Trace) where
  abbrev Holds : Assignment → Guarded → Type 0
  Holds m g = GuardedHolds signature trace m g

  abbrev Guards : Assignment → List Atom → Type 0
  Guards m guard = AtomsHold signature trace m guard

  atom_turned : (m : Assignment) (a : Atom) → Holds m (negated_atom a) ↔ (AtomHolds signature trace m a → ⊥)
  atom_turned m (acts a i) = ((λ h x. h (x, tt)), (λ h x. h x.0))
  atom_turned m (same t u) = as_itself
  atom_turned m (same_time i j) = as_itself
  atom_turned m (before i j) = as_itself
  atom_turned m (last i) = as_itself

  -- within the guard
  body_turned : (guard : List Atom) (g : Guarded) → ((w : Assignment) → Holds w (negate g) ↔ (Holds w g → ⊥))
      → (w : Assignment) → (Guards w guard × Holds w (negate g)) ↔ ((Guards w guard → Holds w g) → ⊥)
  body_turned guard g below w = (
    (λ x k. (below w).0 x.1 (k x.0)),
    (λ k. (stable_atoms signature trace w guard (λ none. k (λ x. absurd (none x))), (below w).1 (λ y. k (λ x. y)))),
  )

  stable_body : (guard : List Atom) (g : Guarded) (w : Assignment) → Classically (Guards w guard → Holds w g) → Guards w guard → Holds w g
  stable_body guard g w h x = stable_guarded signature trace w g (classically (λ k. k x) h)

  guard_turned : (guard : List Atom) (g : Guarded) → ((w : Assignment) → Holds w (negate g) ↔ (Holds w g → ⊥))
      → (w : Assignment) → (Guards w guard → Holds w (negate g)) ↔ (Guards w guard × Holds w g → ⊥)
  guard_turned guard g below w = ((λ k x. (below w).0 (k x.0) x.1), (λ k x. (below w).1 (λ y. k (x, y))))

  every_other : (bs : List Binder) (guard : List Atom) (g : Guarded) → ((w : Assignment) → Holds w (negate g) ↔ (Holds w g → ⊥))
      → (m : Assignment) → Holds m (some bs guard (negate g)) ↔ (Holds m (every bs guard g) → ⊥)
  every_other bs guard g below m =
      some_not signature (length trace) (λ w. Guards w guard → Holds w g) (λ w. Guards w guard × Holds w (negate g)) (body_turned guard g below) (stable_body guard g) bs m

  every_turned : (bs : List Binder) (guard : List Atom) (g : Guarded) → ((w : Assignment) → Holds w (negate g) ↔ (Holds w g → ⊥))
      → (m : Assignment) → Holds m (negate (every bs guard g)) ↔ (Holds m (every bs guard g) → ⊥)
  every_turned [] (acts a i ∷ []) falsity below m = ((λ x k. k (x, tt)), (λ k. stable_atom signature trace m (acts a i) (λ n. k (λ y. n y.0))))
  every_turned bs guard g below m = every_other bs guard g below m

  mutual
    pub turned : (g : Guarded) (m : Assignment) → Holds m (negate g) ↔ (Holds m g → ⊥)
    turned truth m = ((λ x u. x), (λ h. h tt))
    turned falsity m = ((λ x y. y), (λ h. tt))
    turned (holds a) m = atom_turned m a
    turned (fails a) m = ((λ x h. h x), stable_atom signature trace m a)
    turned (all_of gs) m = ((λ s e. s (λ x. some_against gs m x e)), some_broken gs m)
    turned (one_of gs) m = ((λ e s. s (λ x. each_against gs m e x)), each_broken gs m)
    turned (some bs guard g) m =
        each_not signature (length trace) (λ w. Guards w guard × Holds w g) (λ w. Guards w guard → Holds w (negate g)) (guard_turned guard g (turned g)) bs m
    turned (every bs guard g) m = every_turned bs guard g (turned g) m

    some_against : (gs : Guardeds) (m : Assignment) → SomeHolds signature trace m (negate_each gs) → EachHolds signature trace m gs → ⊥
    some_against no_more m x e = x
    some_against (and_then g gs) m (inl x) e = (turned g m).0 x e.0
    some_against (and_then g gs) m (inr x) e = some_against gs m x e.1

    some_broken : (gs : Guardeds) (m : Assignment) → (EachHolds signature trace m gs → ⊥) → Classically (SomeHolds signature trace m (negate_each gs))
    some_broken no_more m k none = k tt
    some_broken (and_then g gs) m k none =
        k (
          stable_guarded signature trace m g (λ n. none (inl ((turned g m).1 n))),
          stable_each signature trace m gs (λ n. some_broken gs m n (λ x. none (inr x))),
        )

    each_against : (gs : Guardeds) (m : Assignment) → EachHolds signature trace m (negate_each gs) → SomeHolds signature trace m gs → ⊥
    each_against no_more m e x = x
    each_against (and_then g gs) m e (inl x) = (turned g m).0 e.0 x
    each_against (and_then g gs) m e (inr x) = each_against gs m e.1 x

    each_broken : (gs : Guardeds) (m : Assignment) → (Classically (SomeHolds signature trace m gs) → ⊥) → EachHolds signature trace m (negate_each gs)
    each_broken no_more m k = tt
    each_broken (and_then g gs) m k = ((turned g m).1 (λ x. k (λ none. none (inl x))), each_broken gs m (λ s. k (λ none. s (λ x. none (inr x)))))
