-- Lists that others are added to, unless the same stands there.
use Rattle.std.proofs.Common.{◌≡◌, ℕ, ◌+◌, ◌<◌, Bool, true, false, not, cond, ◌&&◌, ◌||◌, List, [], ◌∷◌, ◌++◌, drop, length, get_or, append-nil, append_assoc, refl, sym, ap, ◌∙◌, true≢false}
use Rattle.std.proofs.lemmas.Bool.{not-false}
use Rattle.std.specs.List.{filter, list_any}
use Rattle.sp_spec.proofs.Lists.{next_there}
use Rattle.sp_spec_forms.specs.Numbering.{without_repeats}
use Rattle.sp_variant.specs.Adding.{added_after}

module _ {A : Type 0} (same : A → A → Bool) where
  -- ---- in turn

  pub added_both : (before xs ys : List A) → added_after same (added_after same before xs) ys ≡ added_after same before (xs ++ ys)
  added_both before [] ys = refl
  added_both before (x ∷ xs) ys = added_both (cond (list_any (λ y. same y x) before) before (before ++ x ∷ [])) xs ys

  -- a loop that adds what each gives
  pub added_next : {T : Type 0} (each : T → List A) (flat : List T → List A) → ((x : T) (xs : List T) → flat (x ∷ xs) ≡ each x ++ flat xs)
      → (xs : List T) (i : ℕ) (x : T) (before after target : List A) → i < length xs → x ≡ get_or xs i x → after ≡ added_after same before (each x)
      → added_after same before (flat (drop i xs)) ≡ target → added_after same after (flat (drop (i + 1) xs)) ≡ target
  added_next each flat begins xs i x before after target below is added so =
      let rest = drop (i + 1) xs in
      ap (λ ys. added_after same ys (flat rest)) added
      ∙ added_both before (each x) (flat rest)
      ∙ sym (ap (added_after same before) (ap flat (next_there xs xs i x refl below is) ∙ begins x rest))
      ∙ so

  -- ---- the first of those that are the same

  filter_both : (P Q R : A → Bool) → ((y : A) → R y ≡ (Q y && P y)) → (ys : List A) → filter R ys ≡ filter P (filter Q ys)
  filter_both P Q R h [] = refl
  filter_both P Q R h (y ∷ ys) = ap (λ b. cond b (y ∷ filter R ys) (filter R ys)) (h y) ∙ at (filter_both P Q R h ys) (Q y)
    where
      at : filter R ys ≡ filter P (filter Q ys) → (b : Bool) → cond (b && P y) (y ∷ filter R ys) (filter R ys) ≡ filter P (cond b (y ∷ filter Q ys) (filter Q ys))
      at e true = ap (λ zs. cond (P y) (y ∷ zs) zs) e
      at e false = e

  filter_kept : (P Q : A → Bool) → ((y : A) → Q y ≡ false → P y ≡ false) → (ys : List A) → filter P ys ≡ filter P (filter Q ys)
  filter_kept P Q h ys = filter_both P Q P (λ y. at y (Q y) refl) ys
    where
      at : (y : A) (b : Bool) → Q y ≡ b → P y ≡ (b && P y)
      at y true e = refl
      at y false e = h y e

  -- whether it is none of these
  abbrev is_new : List A → A → Bool
  is_new before y = not (list_any (λ z. same z y) before)

  any_last : (p : A → Bool) (xs : List A) (x : A) → not (list_any p (xs ++ x ∷ [])) ≡ (not (p x) && not (list_any p xs))
  any_last p [] x = at (p x)
    where
      at : (b : Bool) → not (b || false) ≡ (not b && true)
      at true = refl
      at false = refl
  any_last p (y ∷ ys) x = at (p y) (p x) (list_any p (ys ++ x ∷ [])) (list_any p ys) (any_last p ys x)
    where
      at : (b c d e : Bool) → not d ≡ (not c && not e) → not (b || d) ≡ (not c && not (b || e))
      at true true d e h = refl
      at true false d e h = refl
      at false c d e h = h

  module _ (trans : (x y z : A) → same x y ≡ true → same y z ≡ true → same x z ≡ true) where
    any_along : (x y : A) → same x y ≡ true → (before : List A) → list_any (λ z. same z x) before ≡ true → is_new before y ≡ false
    any_along x y e [] h = absurd (true≢false (sym h))
    any_along x y e (z ∷ before) h = at (any_along x y e before) (same z x) (same z y) refl refl h
      where
        at : (list_any (λ u. same u x) before ≡ true → is_new before y ≡ false) → (b c : Bool) → same z x ≡ b → same z y ≡ c → (b || list_any (λ u. same u x) before) ≡ true
            → not (c || list_any (λ u. same u y) before) ≡ false
        at on b true k l m = refl
        at on true false k l m = absurd (true≢false (sym (trans z x y k e) ∙ l))
        at on false false k l m = on m

    added_is : (before xs : List A) → added_after same before xs ≡ before ++ filter (is_new before) (without_repeats same xs)
    added_is before [] = sym (append-nil before)
    added_is before (x ∷ xs) = at (list_any (λ y. same y x) before) refl (λ ys. added_is ys xs)
      where
        at : (b : Bool) → list_any (λ y. same y x) before ≡ b → ((ys : List A) → added_after same ys xs ≡ ys ++ filter (is_new ys) (without_repeats same xs))
            → added_after same (cond b before (before ++ x ∷ [])) xs
            ≡ before ++ cond (not b) (x ∷ filter (is_new before) (filter (λ y. not (same x y)) (without_repeats same xs))) (filter (is_new before) (filter (λ y. not (same x y)) (without_repeats same xs)))
        at true e more = more before ∙ ap (λ ys. before ++ ys) (filter_kept (is_new before) (λ y. not (same x y)) (λ y k. any_along x y (not-false (same x y) k) before e) (without_repeats same xs))
        at false e more =
            more (before ++ x ∷ [])
            ∙ append_assoc before (x ∷ []) (filter (is_new (before ++ x ∷ [])) (without_repeats same xs))
            ∙ ap (λ ys. before ++ x ∷ ys)
            (filter_both (is_new before) (λ y. not (same x y)) (is_new (before ++ x ∷ [])) (λ y. any_last (λ z. same z y) before x) (without_repeats same xs))

    pub added_to_none : (xs : List A) → added_after same [] xs ≡ without_repeats same xs
    added_to_none xs = added_is [] xs ∙ all_new (without_repeats same xs)
      where
        all_new : (ys : List A) → filter (is_new []) ys ≡ ys
        all_new [] = refl
        all_new (y ∷ ys) = ap (λ zs. y ∷ zs) (all_new ys)
