-- Lists that are filtered, and lists of the elements of lists.
use Rattle.std.proofs.Common.{◌≡◌, ⊎_elim, inl, inr, Bool, true, false, cond, List, [], ◌∷◌, ◌++◌, map, refl, sym, ap, ap₂, ◌∙◌, subst, true≢false}
use Rattle.std.proofs.lemmas.Bool.{and_from, and_parts, or_left, or_right, or_from}
use Rattle.std.specs.List.{filter, flat_map, list_any, list_all}
use Rattle.sp_spec.specs.Lists.{Member, Every}
use Rattle.sp_spec.proofs.Lists.{member_left, member_right, member_either}

pub every_of_map : {A B : Type 0} (P : B → Type 0) (f : A → B) (xs : List A) → Every P (map f xs) → Every (λ x. P (f x)) xs
every_of_map P f [] h = tt
every_of_map P f (x ∷ xs) h = (h.0, every_of_map P f xs h.1)

pub member_flat_map : {X A : Type 0} (f : X → List A) (x : X) (y : A) (xs : List X) → Member x xs → Member y (f x) → Member y (flat_map f xs)
member_flat_map f x y [] m k = absurd m
member_flat_map f x y (z ∷ xs) (inl e) k = member_left y (f z) (flat_map f xs) (subst (λ w. Member y (f w)) (sym e) k)
member_flat_map f x y (z ∷ xs) (inr m) k = member_right y (f z) (flat_map f xs) (member_flat_map f x y xs m k)

pub member_flat_mapped : {X A : Type 0} (f : X → List A) (y : A) (xs : List X) → Member y (flat_map f xs) → (x : X) × Member x xs × Member y (f x)
member_flat_mapped f y [] m = absurd m
member_flat_mapped f y (x ∷ xs) m =
    ⊎_elim (λ k. (x, inl refl, k)) (λ k. let r = member_flat_mapped f y xs k in (r.0, inr r.1, r.2)) (member_either y (f x) (flat_map f xs) m)

pub flat_map_none : {X A : Type 0} (f : X → List A) (xs : List X) → ((x : X) → Member x xs → f x ≡ []) → flat_map f xs ≡ []
flat_map_none f [] h = refl
flat_map_none f (x ∷ xs) h = ap₂ (λ ys zs. ys ++ zs) (h x (inl refl)) (flat_map_none f xs (λ y m. h y (inr m)))

module _ {A : Type 0} (test : A → Bool) where
  pub member_filter : (x : A) (xs : List A) → Member x xs → test x ≡ true → Member x (filter test xs)
  member_filter x [] m e = absurd m
  member_filter x (y ∷ ys) m e = by_test (λ k. member_filter x ys k e) (test y) refl m
    where
      by_test : (Member x ys → Member x (filter test ys)) → (c : Bool) → test y ≡ c → Member x (y ∷ ys) → Member x (cond c (y ∷ filter test ys) (filter test ys))
      by_test on true is (inl k) = inl k
      by_test on true is (inr k) = inr (on k)
      by_test on false is (inl k) = absurd (true≢false (sym e ∙ ap test (sym k) ∙ is))
      by_test on false is (inr k) = on k

  pub member_filtered : (x : A) (xs : List A) → Member x (filter test xs) → Member x xs
  member_filtered x [] m = m
  member_filtered x (y ∷ ys) m = by_test (member_filtered x ys) (test y) m
    where
      by_test : (Member x (filter test ys) → Member x ys) → (c : Bool) → Member x (cond c (y ∷ filter test ys) (filter test ys)) → Member x (y ∷ ys)
      by_test on true (inl k) = inl k
      by_test on true (inr k) = inr (on k)
      by_test on false k = inr (on k)

  pub member_passes : (x : A) (xs : List A) → Member x (filter test xs) → test x ≡ true
  member_passes x [] m = absurd m
  member_passes x (y ∷ ys) m = by_test (member_passes x ys) (test y) refl m
    where
      by_test : (Member x (filter test ys) → test x ≡ true) → (c : Bool) → test y ≡ c → Member x (cond c (y ∷ filter test ys) (filter test ys)) → test x ≡ true
      by_test on true e (inl k) = ap test (sym k) ∙ e
      by_test on true e (inr k) = on k
      by_test on false e k = on k

  pub none_passes : (xs : List A) → ((x : A) → Member x xs → test x ≡ false) → list_any test xs ≡ false
  none_passes [] h = refl
  none_passes (x ∷ xs) h = or_from (test x) (list_any test xs) (h x (inl refl)) (none_passes xs (λ y m. h y (inr m)))

  pub any_passes : (x : A) (xs : List A) → Member x xs → test x ≡ true → list_any test xs ≡ true
  any_passes x [] m e = absurd m
  any_passes x (y ∷ ys) (inl k) e = or_left (test y) (list_any test ys) (ap test k ∙ e)
  any_passes x (y ∷ ys) (inr m) e = or_right (test y) (list_any test ys) (any_passes x ys m e)

  pub all_pass : (xs : List A) → Every (λ x. test x ≡ true) xs → list_all test xs ≡ true
  all_pass [] h = refl
  all_pass (x ∷ xs) h = and_from (test x) (list_all test xs) h.0 (all_pass xs h.1)

  pub all_from : (xs : List A) → list_all test xs ≡ true → Every (λ x. test x ≡ true) xs
  all_from [] e = tt
  all_from (x ∷ xs) e = let k = and_parts (test x) (list_all test xs) e in (k.0, all_from xs k.1)
