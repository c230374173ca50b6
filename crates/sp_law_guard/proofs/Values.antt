-- What is true for some values of binders, and for all, and where it isn't.
use Rattle.std.proofs.Common.{ℕ, List, [], ◌∷◌}
use Rattle.std.specs.Prelude.{◌↔◌}
use Rattle.sp_spec.specs.Lists.{Classically}
use Rattle.sp_spec.specs.Term.{Ground}
use Rattle.sp_spec.specs.Signature.{Signature}
use Rattle.sp_spec.specs.Guarded.{Binder, message, time, Assignment, with_term, with_time, SomeValues, EachValues}
use Rattle.sp_law_truth.proofs.StableGuarded.{stable_every}
use Rattle.sp_law_truth.proofs.AsTrue.{as_classically}

module _ (signature : Signature) (n : ℕ) (P Q : Assignment → Type 0) where
  pub some_as : ((w : Assignment) → P w ↔ Q w) → (bs : List Binder) (m : Assignment) → SomeValues signature n bs P m ↔ SomeValues signature n bs Q m
  some_as h [] m = h m
  some_as h (message sort ∷ bs) m =
      let below : (t : Ground) → _ = λ t. some_as h bs (with_term t m) in
      as_classically ((λ x. (x.0, x.1, (below x.0).0 x.2)), (λ x. (x.0, x.1, (below x.0).1 x.2)))
  some_as h (time ∷ bs) m =
      let below : (p : ℕ) → _ = λ p. some_as h bs (with_time p m) in
      as_classically ((λ x. (x.0, x.1, (below x.0).0 x.2)), (λ x. (x.0, x.1, (below x.0).1 x.2)))

  -- where Q is true exactly where P isn't
  module _ (h : (w : Assignment) → Q w ↔ (P w → ⊥)) where
    pub each_not : (bs : List Binder) (m : Assignment) → EachValues signature n bs Q m ↔ (SomeValues signature n bs P m → ⊥)
    each_not [] m = h m
    each_not (message sort ∷ bs) m =
        let below : (t : Ground) → _ = λ t. each_not bs (with_term t m) in
        ((λ e s. s (λ x. (below x.0).0 (e x.0 x.1) x.2)), (λ k t i. (below t).1 (λ s. k (λ none. none (t, i, s)))))
    each_not (time ∷ bs) m =
        let below : (p : ℕ) → _ = λ p. each_not bs (with_time p m) in
        ((λ e s. s (λ x. (below x.0).0 (e x.0 x.1) x.2)), (λ k p l. (below p).1 (λ s. k (λ none. none (p, l, s)))))

    pub some_not : ((w : Assignment) → Classically (P w) → P w) → (bs : List Binder) (m : Assignment) → SomeValues signature n bs Q m ↔ (EachValues signature n bs P m → ⊥)
    some_not stable [] m = h m
    some_not stable (message sort ∷ bs) m =
        let below : (t : Ground) → _ = λ t. some_not stable bs (with_term t m) in (
          (λ s e. s (λ x. (below x.0).0 x.2 (e x.0 x.1))),
          (λ k none. k (λ t i. stable_every signature n P stable bs (with_term t m) (λ ne. none (t, i, (below t).1 ne)))),
        )
    some_not stable (time ∷ bs) m =
        let below : (p : ℕ) → _ = λ p. some_not stable bs (with_time p m) in (
          (λ s e. s (λ x. (below x.0).0 x.2 (e x.0 x.1))),
          (λ k none. k (λ p l. stable_every signature n P stable bs (with_time p m) (λ ne. none (p, l, (below p).1 ne)))),
        )
