-- Lists that go together element by element.
use Rattle.std.proofs.Common.{◌≡◌, inl, inr, ℕ, List, [], ◌∷◌, map, length, refl, subst, ap₂, ◌∙◌, arith}
use Rattle.sp_spec.specs.Lists.{Member, AtPosition}
use Rattle.sp_law_equal.specs.Pointwise.{EachWith}

module _ {A B : Type 0} (R : A → B → Type 0) where
  pub each_with_sym : (S : B → A → Type 0) → ((x : A) (y : B) → R x y → S y x) → (xs : List A) (ys : List B) → EachWith R xs ys → EachWith S ys xs
  each_with_sym S turn [] [] h = tt
  each_with_sym S turn [] (y ∷ ys) h = absurd h
  each_with_sym S turn (x ∷ xs) [] h = absurd h
  each_with_sym S turn (x ∷ xs) (y ∷ ys) h = (turn x y h.0, each_with_sym S turn xs ys h.1)

  pub each_with_length : (xs : List A) (ys : List B) → EachWith R xs ys → length xs ≡ length ys
  each_with_length [] [] h = refl
  each_with_length [] (y ∷ ys) h = absurd h
  each_with_length (x ∷ xs) [] h = absurd h
  each_with_length (x ∷ xs) (y ∷ ys) h = let below = each_with_length xs ys h.1 in grind (arith, below)

  -- an element of the first goes with one of the second
  pub each_with_member : (xs : List A) (ys : List B) → EachWith R xs ys → (x : A) → Member x xs → (y : B) × Member y ys × R x y
  each_with_member [] ys h x m = absurd m
  each_with_member (z ∷ xs) [] h x m = absurd h
  each_with_member (z ∷ xs) (y ∷ ys) h x (inl e) = (y, inl refl, subst (λ (w : A). R w y) e h.0)
  each_with_member (z ∷ xs) (y ∷ ys) h x (inr m) = let r = each_with_member xs ys h.1 x m in (r.0, inr r.1, r.2)

  pub each_with_position : (xs : List A) (ys : List B) → EachWith R xs ys → (p : ℕ) (x : A) → AtPosition xs p x → (y : B) × AtPosition ys p y × R x y
  each_with_position [] ys h p x at = absurd at
  each_with_position (z ∷ xs) [] h p x at = absurd h
  each_with_position (z ∷ xs) (y ∷ ys) h p x (inl at) = (y, inl (at.0 ∙ each_with_length xs ys h.1, refl), subst (λ (w : A). R w y) at.1 h.0)
  each_with_position (z ∷ xs) (y ∷ ys) h p x (inr at) = let r = each_with_position xs ys h.1 p x at in (r.0, inr r.1, r.2)

-- elements that are made the same
pub map_same : {A B : Type 0} (R : A → A → Type 0) (n : A → B) → ((x y : A) → R x y → n x ≡ n y) → (xs ys : List A) → EachWith R xs ys → map n xs ≡ map n ys
map_same R n e [] [] h = refl
map_same R n e [] (y ∷ ys) h = absurd h
map_same R n e (x ∷ xs) [] h = absurd h
map_same R n e (x ∷ xs) (y ∷ ys) h = ap₂ (λ z zs. z ∷ zs) (e x y h.0) (map_same R n e xs ys h.1)
