-- What conjunctions, disjunctions and quantifiers of guarded formulas say.
use Rattle.std.proofs.Common.{◌⊎◌, List, [], ◌∷◌, ◌++◌, length, inl, inr}
use Rattle.std.specs.Prelude.{◌↔◌}
use Rattle.sp_spec.specs.Lists.{Classically}
use Rattle.sp_spec.specs.Signature.{Signature}
use Rattle.sp_spec.specs.Execution.{Trace}
use Rattle.sp_spec.specs.Guarded.{Binder, message, time, acts, same, same_time, before, last, Guarded, Guardeds, truth, falsity, holds, fails, all_of, one_of, some, every, no_more, and_then, Assignment, AtomsHold, SomeValues, GuardedHolds, EachHolds, SomeHolds, parts_of, guardeds_of}
use Rattle.sp_law_truth.proofs.Stable.{classically}
use Rattle.sp_law_truth.proofs.StableGuarded.{stable_guarded}
use Rattle.sp_law_truth.proofs.AsTrue.{as_itself, as_both, as_either, as_classically, as_turned, as_through}
use Rattle.sp_law_guard.specs.GuardedForm.{conjuncts, disjuncts, conjunction, disjunction, guard_in, rest_in, body_of, existential}
use Rattle.sp_law_guard.proofs.Values.{some_as}

module _ (signature : Signature) (trace : Trace) where
  abbrev Holds : Assignment → Guarded → Type 0
  Holds m g = GuardedHolds signature trace m g

  abbrev EachOf : Assignment → List Guarded → Type 0
  EachOf m gs = EachHolds signature trace m (guardeds_of gs)

  abbrev SomeOf : Assignment → List Guarded → Type 0
  SomeOf m gs = SomeHolds signature trace m (guardeds_of gs)

  module _ (m : Assignment) where
    each_appended : (gs hs : List Guarded) → EachOf m (gs ++ hs) ↔ (EachOf m gs × EachOf m hs)
    each_appended [] hs = ((λ x. (tt, x)), (λ x. x.1))
    each_appended (g ∷ gs) hs =
        let r = each_appended gs hs in
        ((λ x. ((x.0, (r.0 x.1).0), (r.0 x.1).1)), (λ x. (x.0.0, r.1 (x.0.1, x.1))))

    each_parts : (gs : Guardeds) → EachOf m (parts_of gs) ↔ EachHolds signature trace m gs
    each_parts no_more = as_itself
    each_parts (and_then g gs) = as_both as_itself (each_parts gs)

    each_alone : {A : Type 0} → (A × Unit {0}) ↔ A
    each_alone = ((λ x. x.0), (λ x. (x, tt)))

    conjuncts_same : (g : Guarded) → EachOf m (conjuncts g) ↔ Holds m g
    conjuncts_same (all_of gs) = each_parts gs
    conjuncts_same g = each_alone

    pub conjunction_both : (g h : Guarded) → Holds m (conjunction g h) ↔ (Holds m g × Holds m h)
    conjunction_both g h = as_through (each_appended (conjuncts g) (conjuncts h)) (as_both (conjuncts_same g) (conjuncts_same h))

    some_appended : (gs hs : List Guarded) → SomeOf m (gs ++ hs) → SomeOf m gs ⊎ SomeOf m hs
    some_appended [] hs x = inr x
    some_appended (g ∷ gs) hs (inl x) = inl (inl x)
    some_appended (g ∷ gs) hs (inr x) = at (some_appended gs hs x)
      where
        at : SomeOf m gs ⊎ SomeOf m hs → SomeOf m (g ∷ gs) ⊎ SomeOf m hs
        at (inl y) = inl (inr y)
        at (inr y) = inr y

    some_left : (gs hs : List Guarded) → SomeOf m gs → SomeOf m (gs ++ hs)
    some_left [] hs x = absurd x
    some_left (g ∷ gs) hs (inl x) = inl x
    some_left (g ∷ gs) hs (inr x) = inr (some_left gs hs x)

    some_right : (gs hs : List Guarded) → SomeOf m hs → SomeOf m (gs ++ hs)
    some_right [] hs x = x
    some_right (g ∷ gs) hs x = inr (some_right gs hs x)

    some_parts : (gs : Guardeds) → SomeOf m (parts_of gs) ↔ SomeHolds signature trace m gs
    some_parts no_more = as_itself
    some_parts (and_then g gs) = as_either as_itself (some_parts gs)

    some_alone : (g : Guarded) → Classically (Holds m g ⊎ ⊥) ↔ Holds m g
    some_alone g = ((λ s. stable_guarded signature trace m g (classically at s)), (λ x none. none (inl x)))
      where
        at : Holds m g ⊎ ⊥ → Holds m g
        at (inl x) = x
        at (inr x) = absurd x

    disjuncts_same : (g : Guarded) → Classically (SomeOf m (disjuncts g)) ↔ Holds m g
    disjuncts_same (one_of gs) = as_classically (some_parts gs)
    disjuncts_same truth = some_alone truth
    disjuncts_same falsity = some_alone falsity
    disjuncts_same (holds a) = some_alone (holds a)
    disjuncts_same (fails a) = some_alone (fails a)
    disjuncts_same (all_of gs) = some_alone (all_of gs)
    disjuncts_same (some bs guard g) = some_alone (some bs guard g)
    disjuncts_same (every bs guard g) = some_alone (every bs guard g)

    pub disjunction_either : (g h : Guarded) → Holds m (disjunction g h) ↔ Classically (Holds m g ⊎ Holds m h)
    disjunction_either g h = (forth, (λ s none. s (λ x. back x none)))
      where
        forth : Holds m (disjunction g h) → Classically (Holds m g ⊎ Holds m h)
        forth s none = s (λ x. at (some_appended (disjuncts g) (disjuncts h) x))
          where
            at : SomeOf m (disjuncts g) ⊎ SomeOf m (disjuncts h) → ⊥
            at (inl y) = none (inl ((disjuncts_same g).0 (λ k. k y)))
            at (inr y) = none (inr ((disjuncts_same h).0 (λ k. k y)))

        back : Holds m g ⊎ Holds m h → Holds m (disjunction g h)
        back (inl x) = classically (some_left (disjuncts g) (disjuncts h)) ((disjuncts_same g).1 x)
        back (inr x) = classically (some_right (disjuncts g) (disjuncts h)) ((disjuncts_same h).1 x)

    -- the guard and the rest of a conjunction
    abbrev Parted : List Guarded → Type 0
    Parted gs = AtomsHold signature trace m (guard_in gs) × EachOf m (rest_in gs)

    taken : {A B C D : Type 0} → (B ↔ (C × D)) → (A × B) ↔ ((A × C) × D)
    taken r = ((λ x. ((x.0, (r.0 x.1).0), (r.0 x.1).1)), (λ x. (x.0.0, r.1 (x.0.1, x.1))))

    left : {A B C D : Type 0} → (B ↔ (C × D)) → (A × B) ↔ (C × (A × D))
    left r = ((λ x. ((r.0 x.1).0, (x.0, (r.0 x.1).1))), (λ x. (x.1.0, r.1 (x.0, x.1.1))))

    parted : (gs : List Guarded) → EachOf m gs ↔ Parted gs
    parted [] = ((λ x. (tt, tt)), (λ x. tt))
    parted (holds (acts a i) ∷ gs) = taken (parted gs)
    parted (holds (same t u) ∷ gs) = taken (parted gs)
    parted (holds (same_time i j) ∷ gs) = left (parted gs)
    parted (holds (before i j) ∷ gs) = left (parted gs)
    parted (holds (last i) ∷ gs) = left (parted gs)
    parted (truth ∷ gs) = left (parted gs)
    parted (falsity ∷ gs) = left (parted gs)
    parted (fails a ∷ gs) = left (parted gs)
    parted (all_of hs ∷ gs) = left (parted gs)
    parted (one_of hs ∷ gs) = left (parted gs)
    parted (some bs guard g ∷ gs) = left (parted gs)
    parted (every bs guard g ∷ gs) = left (parted gs)

    body_same : (gs : List Guarded) → Holds m (body_of gs) ↔ EachOf m gs
    body_same [] = as_itself
    body_same (g ∷ []) = as_turned each_alone
    body_same (g ∷ h ∷ gs) = as_itself

    guarded_same : (g : Guarded) → (AtomsHold signature trace m (guard_in (conjuncts g)) × Holds m (body_of (rest_in (conjuncts g)))) ↔ Holds m g
    guarded_same g =
        as_through (as_both as_itself (body_same (rest_in (conjuncts g)))) (as_through (as_turned (parted (conjuncts g))) (conjuncts_same g))

  -- for some value of the binder
  bound_same : (b : Binder) (g : Guarded) (m : Assignment) → Holds m (some (b ∷ []) (guard_in (conjuncts g)) (body_of (rest_in (conjuncts g)))) ↔ SomeValues signature (length trace) (b ∷ []) (λ w. Holds w g) m
  bound_same b g m =
      some_as signature (length trace) (λ w. AtomsHold signature trace w (guard_in (conjuncts g)) × Holds w (body_of (rest_in (conjuncts g)))) (λ w. Holds w g)
      (λ w. guarded_same w g) (b ∷ []) m

  pub existential_some : (b : Binder) (g : Guarded) (m : Assignment) → Holds m (existential b g) ↔ SomeValues signature (length trace) (b ∷ []) (λ w. Holds w g) m
  existential_some (message sort) (some bs guard g) m = as_itself
  existential_some time (some bs guard g) m = as_itself
  existential_some b truth m = bound_same b truth m
  existential_some b falsity m = bound_same b falsity m
  existential_some b (holds a) m = bound_same b (holds a) m
  existential_some b (fails a) m = bound_same b (fails a) m
  existential_some b (all_of gs) m = bound_same b (all_of gs) m
  existential_some b (one_of gs) m = bound_same b (one_of gs) m
  existential_some b (every bs guard g) m = bound_same b (every bs guard g) m
