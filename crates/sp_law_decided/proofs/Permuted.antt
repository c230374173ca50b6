-- Numbers of which none stands twice, where the elements that have them change places.
use Rattle.std.proofs.Common.{◌≡◌, ℕ, ◌==◌, Bool, true, false, List, [], ◌∷◌, map, IsPermutation, inl, inr, refl, sym, ◌∙◌, true≢false}
use Rattle.std.specs.List.{IsDistinct, AllByRecursion}
use Rattle.std.proofs.lemmas.Bool.{eqb-true, eq-eqb, false_from_ne_true}
use Rattle.std.proofs.lemmas.List.Sorted.{IsPermutation-map}
use Rattle.std.proofs.lemmas.Map.Keys.{IsDistinct-IsPermutation}
use Rattle.sp_spec.specs.Lists.{Member, Distinct}

abbrev same : ℕ → ℕ → Bool
same i j = i == j

same_back : (i j : ℕ) → same i j ≡ same j i
same_back i j = at (same i j) (same j i) refl refl
  where
    at : (a b : Bool) → same i j ≡ a → same j i ≡ b → a ≡ b
    at true true e k = refl
    at false false e k = refl
    at true false e k = sym (eq-eqb j i (sym (eqb-true i j e))) ∙ k
    at false true e k = sym e ∙ eq-eqb i j (sym (eqb-true j i k))

none_same : (i : ℕ) (is : List ℕ) → (Member i is → ⊥) → AllByRecursion (λ j. same i j ≡ false) is
none_same i [] none = tt
none_same i (j ∷ is) none = (false_from_ne_true (same i j) (λ e. none (inl (sym (eqb-true i j e)))), none_same i is (λ m. none (inr m)))

not_there : (i : ℕ) (is : List ℕ) → AllByRecursion (λ j. same i j ≡ false) is → Member i is → ⊥
not_there i [] none m = m
not_there i (j ∷ is) none (inl e) = true≢false (sym (eq-eqb i j (sym e)) ∙ none.0)
not_there i (j ∷ is) none (inr m) = not_there i is none.1 m

tested : (is : List ℕ) → Distinct is → IsDistinct same is
unfolding IsDistinct
tested [] d = tt
tested (i ∷ is) d = (none_same i is d.0, tested is d.1)

told : (is : List ℕ) → IsDistinct same is → Distinct is
unfolding IsDistinct
told [] d = tt
told (i ∷ is) d = (not_there i is d.0, told is d.1)

pub distinct_permuted : {A : Type 0} (number : A → ℕ) (xs ys : List A) → IsPermutation xs ys → Distinct (map number xs) → Distinct (map number ys)
distinct_permuted number xs ys p d =
    told (map number ys) (IsDistinct-IsPermutation same same_back (map number xs) (map number ys) (IsPermutation-map number xs ys p) (tested (map number xs) d))
