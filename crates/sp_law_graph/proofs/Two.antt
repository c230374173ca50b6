-- Two elements of a list of which a test holds are among it.
use Rattle.std.proofs.Common.{◌≡◌, Bool, true, false, if◌then◌else◌, List, [], ◌∷◌, Option, Some, None, refl, sym, ◌∙◌, subst, inl, inr, ⊎_elim}
use Rattle.std.proofs.lemmas.Bool.{or_cases}
use Rattle.std.specs.Option.{option_or}
use Rattle.sp_spec.specs.Lists.{Member, Every}
use Rattle.sp_spec_system.specs.Picked.{first_with, first_two, some_with, some_two}

module _ {A : Type 0} (test : A → A → Bool) (P : A → Type 0) where
  abbrev pub AreTwo : A × A → Type 0
  AreTwo p = (test p.0 p.1 ≡ true) × P p.0 × P p.1

  with_found : (l : A) (ls : List A) (p : A × A) → first_with test l ls ≡ Some p → P l → Every P ls → AreTwo p
  with_found l [] p e k h = absurd cc
  with_found l (m ∷ ms) p e k h = at (test l m) refl e (λ d. with_found l ms p d k h.1)
    where
      at : (b : Bool) → test l m ≡ b → (if b then Some (l, m) else first_with test l ms) ≡ Some p → (first_with test l ms ≡ Some p → AreTwo p) → AreTwo p
      at true c d later = let here : A × A = (l, m) in let g : here ≡ p = cc in subst AreTwo g (c, k, h.0)
      at false c d later = later d

  pub two_found : (ls : List A) (p : A × A) → first_two test ls ≡ Some p → Every P ls → AreTwo p
  two_found [] p e h = absurd cc
  two_found (l ∷ ls) p e h = at (first_with test l ls) refl e (λ d. two_found ls p d h.1)
    where
      at : (o : Option (A × A)) → first_with test l ls ≡ o → option_or o (first_two test ls) ≡ Some p → (first_two test ls ≡ Some p → AreTwo p) → AreTwo p
      at (Some q) c d later = let g : q ≡ p = cc in subst AreTwo g (with_found l ls q c h.0 h.1)
      at None c d later = later d

  module _ (contradicts : (l m : A) → test l m ≡ true → P l → P m → ⊥) where
    with_contradicts : (l : A) (ls : List A) → some_with test l ls ≡ true → P l → Every P ls → ⊥
    with_contradicts l [] e k h = absurd cc
    with_contradicts l (m ∷ ms) e k h = ⊎_elim (λ c. contradicts l m c k h.0) (λ c. with_contradicts l ms c k h.1) (or_cases (test l m) (some_with test l ms) e)

    pub two_contradict : (ls : List A) → some_two test ls ≡ true → Every P ls → ⊥
    two_contradict [] e h = absurd cc
    two_contradict (l ∷ ls) e h = ⊎_elim (λ c. with_contradicts l ls c h.0 h.1) (λ c. two_contradict ls c h.1) (or_cases (some_with test l ls) (some_two test ls) e)

-- two elements of which the test holds, either way, are found where they differ
module _ {A : Type 0} (test : A → A → Bool) where
  none_with : (l : A) (ls : List A) → first_with test l ls ≡ None → (m : A) → Member m ls → test l m ≡ true → ⊥
  none_with l [] e m there c = there
  none_with l (k ∷ ls) e m there c = at (test l k) refl e there (λ d n. none_with l ls d m n c)
    where
      at : (b : Bool) → test l k ≡ b → (if b then Some (l, k) else first_with test l ls) ≡ None → Member m (k ∷ ls) → (first_with test l ls ≡ None → Member m ls → ⊥) → ⊥
      at true d n place later = absurd cc
      at false d n (inl same) later = let so : test l k ≡ true = subst (λ (x : A). test l x ≡ true) (sym same) c in absurd cc
      at false d n (inr place) later = later n place

  nothing_first : (o r : Option (A × A)) → option_or o r ≡ None → (o ≡ None) × (r ≡ None)
  nothing_first None r e = (refl, e)
  nothing_first (Some q) r e = absurd cc

  pub none_two : (ls : List A) → first_two test ls ≡ None → (a d : A) → Member a ls → Member d ls → (a ≡ d → ⊥) → test a d ≡ true → test d a ≡ true → ⊥
  none_two [] e a d x y differ s t = x
  none_two (l ∷ ls) e a d (inl x) (inl y) differ s t = differ (sym x ∙ y)
  none_two (l ∷ ls) e a d (inl x) (inr y) differ s t =
      none_with l ls (nothing_first (first_with test l ls) (first_two test ls) e).0 d y (subst (λ (z : A). test z d ≡ true) (sym x) s)
  none_two (l ∷ ls) e a d (inr x) (inl y) differ s t =
      none_with l ls (nothing_first (first_with test l ls) (first_two test ls) e).0 a x (subst (λ (z : A). test z a ≡ true) (sym y) t)
  none_two (l ∷ ls) e a d (inr x) (inr y) differ s t = none_two ls (nothing_first (first_with test l ls) (first_two test ls) e).1 a d x y differ s t
