-- Lists of which only the first of those that are the same are kept.
use Rattle.std.proofs.Common.{◌≡◌, inl, inr, Bool, true, false, not, List, [], ◌∷◌, refl, ap, subst}
use Rattle.sp_spec.specs.Lists.{Member}
use Rattle.sp_spec_forms.specs.Numbering.{without_repeats}
use Rattle.sp_law_forms.proofs.Lists.{member_filter, member_filtered}

module _ {A : Type 0} (same : A → A → Bool) where
  pub member_once : (x : A) (xs : List A) → Member x (without_repeats same xs) → Member x xs
  member_once x [] m = m
  member_once x (y ∷ ys) (inl e) = inl e
  member_once x (y ∷ ys) (inr m) = inr (member_once x ys (member_filtered (λ z. not (same y z)) x (without_repeats same ys) m))

  -- what is left out is related to one that is kept
  pub kept_for : (R : A → A → Type 0) → ((x : A) → R x x) → ((x y z : A) → R x y → R y z → R x z) → ((x y : A) → same x y ≡ true → R x y)
      → (z : A) (xs : List A) → Member z xs → (y : A) × Member y (without_repeats same xs) × R y z
  kept_for R itself trans tells z [] m = absurd m
  kept_for R itself trans tells z (x ∷ xs) (inl e) = (x, inl refl, subst (R x) e (itself x))
  kept_for R itself trans tells z (x ∷ xs) (inr m) = let k = kept_for R itself trans tells z xs m in by_test k.0 k.1 k.2 (same x k.0) refl
    where
      by_test : (y : A) → Member y (without_repeats same xs) → R y z → (c : Bool) → same x y ≡ c → (u : A) × Member u (without_repeats same (x ∷ xs)) × R u z
      by_test y k r true e = (x, inl refl, trans x y z (tells x y e) r)
      by_test y k r false e = (y, inr (member_filter (λ u. not (same x u)) y (without_repeats same xs) k (ap not e)), r)
