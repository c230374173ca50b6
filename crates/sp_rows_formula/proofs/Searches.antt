-- The position of the first formula of which something is picked, as a loop looks for it.
use Rattle.std.proofs.Common.{◌≡◌, ◌<◌, ◌≤◌, is_some, true, false, true≢false, ℕ, suc, ◌+◌, List, [], ◌∷◌, drop, length, map, Option, Some, None, option_map, refl, sym, ap, ◌∙◌, subst, arith, slice_index_or}
use Rattle.std.proofs.lemmas.List.{drop_more, drop_all, length-map}
use Rattle.sp_spec.specs.Guarded.{Guarded}
use Rattle.sp_formula.specs.declared.formula.Formula.{Formula}
use Rattle.sp_formula.specs.FormulaView.{formula_of}
use Rattle.sp_rows_formula.specs.RowsView.{one_on, position_at, position_of}

abbrev further : {A : Type 0} → ℕ → ℕ × A → ℕ × A
further i p = (i + p.0, p.1)

-- nothing is picked of those before i
abbrev pub IsLeft : {A : Type 0} → (Guarded → Option A) → List Formula → ℕ → Type 0
IsLeft pick fs i = position_of pick (map formula_of fs) ≡ option_map (further i) (position_of pick (map formula_of (drop i fs)))

module _ {A : Type 0} (pick : Guarded → Option A) where
  further_none : (o : Option (ℕ × A)) → option_map (further 0) o ≡ o
  further_none None = refl
  further_none (Some p) = ap (λ (k : ℕ). let q : Option (ℕ × A) = Some (k, p.1) in q) (omega arith)

  pub left_start : (fs : List Formula) → IsLeft pick fs 0
  left_start fs = sym (further_none (position_of pick (map formula_of fs)))

  further_one : (i : ℕ) (o : Option (ℕ × A)) → option_map (further i) (option_map one_on o) ≡ option_map (further (i + 1)) o
  further_one i None = refl
  further_one i (Some p) = ap (λ (k : ℕ). let q : Option (ℕ × A) = Some (k, p.1) in q) (omega arith)

  at_next : (fs : List Formula) (i : ℕ) (f : Formula) → i < length fs → f ≡ slice_index_or fs i f → position_of pick (map formula_of (drop i fs)) ≡ position_at (pick (formula_of f)) (position_of pick (map formula_of (drop (i + 1) fs)))
  at_next fs i f h e =
      ap (λ (gs : List Formula). position_of pick (map formula_of gs)) (drop_more fs i f h)
      ∙ ap (λ (g : Formula). position_at (pick (formula_of g)) (position_of pick (map formula_of (drop (i + 1) fs)))) (sym e)

  pub left_more : (fs : List Formula) (i : ℕ) (f : Formula) → i < length fs → f ≡ slice_index_or fs i f → pick (formula_of f) ≡ None → IsLeft pick fs i → IsLeft pick fs (i + 1)
  left_more fs i f h e n left =
      left ∙ ap (option_map (further i)) (at_next fs i f h e ∙ ap (λ (o : Option A). position_at o (position_of pick (map formula_of (drop (i + 1) fs)))) n)
      ∙ further_one i (position_of pick (map formula_of (drop (i + 1) fs)))

  pub left_found : (fs : List Formula) (i : ℕ) (f : Formula) (a : A) → i < length fs → f ≡ slice_index_or fs i f → pick (formula_of f) ≡ Some a → IsLeft pick fs i → position_of pick (map formula_of fs) ≡ Some (i, a)
  left_found fs i f a h e s left =
      left ∙ ap (option_map (further i)) (at_next fs i f h e ∙ ap (λ (o : Option A). position_at o (position_of pick (map formula_of (drop (i + 1) fs)))) s)
      ∙ ap (λ (k : ℕ). let q : Option (ℕ × A) = Some (k, a) in q) (omega arith)

  -- the same where it is asked for only whether something is picked
  pub left_other : (fs : List Formula) (i : ℕ) (f : Formula) → i < length fs → f ≡ slice_index_or fs i f → is_some (pick (formula_of f)) ≡ false → IsLeft pick fs i → IsLeft pick fs (i + 1)
  left_other fs i f h e n left = at (pick (formula_of f)) refl
    where
      at : (o : Option A) → pick (formula_of f) ≡ o → IsLeft pick fs (i + 1)
      at None d = left_more fs i f h e d left
      at (Some a) d = absurd (true≢false (ap is_some (sym d) ∙ n))

  pub left_stands : (fs : List Formula) (i : ℕ) (f : Formula) → i < length fs → f ≡ slice_index_or fs i f → is_some (pick (formula_of f)) ≡ true → IsLeft pick fs i
      → Some i ≡ option_map (λ p. p.0) (position_of pick (map formula_of fs))
  left_stands fs i f h e n left = at (pick (formula_of f)) refl
    where
      at : (o : Option A) → pick (formula_of f) ≡ o → Some i ≡ option_map (λ p. p.0) (position_of pick (map formula_of fs))
      at None d = absurd (true≢false (sym n ∙ ap is_some d))
      at (Some a) d = ap (option_map (λ p. p.0)) (sym (left_found fs i f a h e d left))

  pub left_none : (fs : List Formula) (i : ℕ) → length fs ≤ i → IsLeft pick fs i → position_of pick (map formula_of fs) ≡ None
  left_none fs i h left = left ∙ ap (λ (gs : List Formula). option_map (further i) (position_of pick (map formula_of gs))) (drop_all i fs h)

  pub left_nothing : (fs : List Formula) (i : ℕ) → length fs ≤ i → IsLeft pick fs i → None ≡ option_map (λ p. p.0) (position_of pick (map formula_of fs))
  left_nothing fs i h left = sym (ap (option_map (λ p. p.0)) (left_none fs i h left))

  index : Option (ℕ × A) → ℕ
  index None = 0
  index (Some p) = p.0

  -- what is found stands in the list
  pub within : (fs : List Guarded) (k : ℕ) (a : A) → position_of pick fs ≡ Some (k, a) → k < length fs
  unfolding index
  within [] k a e = absurd cc
  within (f ∷ fs) k a e = at (pick f) (position_of pick fs) (λ j b d. within fs j b d) e
    where
      at : (o : Option A) (rest : Option (ℕ × A)) → ((j : ℕ) (b : A) → rest ≡ Some (j, b) → j < length fs) → position_at o rest ≡ Some (k, a) → k < suc (length fs)
      at (Some b) rest hyp d = let q : 0 ≡ k = ap index d in omega (arith, q)
      at None None hyp d = absurd cc
      at None (Some p) hyp d = let q : suc p.0 ≡ k = ap index d in let h = hyp p.0 p.1 refl in omega (arith, q, h)

  pub below : (fs : List Formula) (k : ℕ) (a : A) → position_of pick (map formula_of fs) ≡ Some (k, a) → k < length fs
  below fs k a e = subst (λ (n : ℕ). k < n) (length-map fs formula_of) (within (map formula_of fs) k a e)

  pub place_within : (fs : List Guarded) (k : ℕ) → option_map (λ p. p.0) (position_of pick fs) ≡ Some k → k < length fs
  place_within fs k e = at (position_of pick fs) refl e
    where
      at : (o : Option (ℕ × A)) → position_of pick fs ≡ o → option_map (λ p. p.0) o ≡ Some k → k < length fs
      at None d q = absurd cc
      at (Some p) d q = let r : p.0 ≡ k = cc in subst (λ (j : ℕ). j < length fs) r (within fs p.0 p.1 d)
