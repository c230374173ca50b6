-- Moves on each two of a list, of which the one stands in front of the other.
use Rattle.std.proofs.Common.{◌≡◌, ◌⊎◌, ⊎_elim, ◌≤◌, ◌<◌, ◌+◌, ℕ, zero, suc, List, [], ◌∷◌, ◌++◌, flat_map, inl, inr, sym, subst, arith}
use Rattle.std.proofs.Math.Nat.{eq-or-lt_of_le}
use Rattle.sp_spec.specs.Lists.{Member}
use Rattle.sp_spec.proofs.Lists.{member_left, member_right}
use Rattle.sp_spec_system.specs.Move.{Move}
use Rattle.sp_spec_proof.specs.Deciding.{counted, each_two}
use Rattle.sp_law_forms.proofs.Lists.{member_flat_map}

-- the one stands in front of the other
abbrev pub InFront : {A : Type 0} → A → A → List A → Type 0
InFront x y [] = ⊥
InFront x y (z ∷ zs) = ((z ≡ x) × Member y zs) ⊎ InFront x y zs

pub two_there : {A : Type 0} (moves : A → A → List Move) (x y : A) (xs : List A) → InFront x y xs → (m : Move) → Member m (moves x y) → Member m (each_two moves xs)
two_there moves x y [] f m k = absurd f
two_there moves x y (z ∷ zs) (inl f) m k =
    member_left m (flat_map (moves z) zs) (each_two moves zs) (subst (λ w. Member m (flat_map (moves w) zs)) (sym f.0) (member_flat_map (moves x) y m zs f.1 k))
two_there moves x y (z ∷ zs) (inr f) m k = member_right m (flat_map (moves z) zs) (each_two moves zs) (two_there moves x y zs f m k)

-- ---- lists one after the other

pub front_left : {A : Type 0} (x y : A) (xs ys : List A) → InFront x y xs → InFront x y (xs ++ ys)
front_left x y [] ys f = absurd f
front_left x y (z ∷ xs) ys (inl f) = inl (f.0, member_left y xs ys f.1)
front_left x y (z ∷ xs) ys (inr f) = inr (front_left x y xs ys f)

front_right : {A : Type 0} (x y : A) (xs ys : List A) → InFront x y ys → InFront x y (xs ++ ys)
front_right x y [] ys f = f
front_right x y (z ∷ xs) ys f = inr (front_right x y xs ys f)

pub front_both : {A : Type 0} (x y : A) (xs ys : List A) → Member x xs → Member y ys → InFront x y (xs ++ ys)
front_both x y [] ys m k = absurd m
front_both x y (z ∷ xs) ys (inl e) k = inl (e, member_right y xs ys k)
front_both x y (z ∷ xs) ys (inr m) k = inr (front_both x y xs ys m k)

-- what is made of the one, and what is made of the other
pub front_flat : {X A : Type 0} (f : X → List A) (i j : X) (xs : List X) → InFront i j xs → (x y : A) → Member x (f i) → Member y (f j) → InFront x y (flat_map f xs)
front_flat f i j [] h x y m k = absurd h
front_flat f i j (z ∷ xs) (inl h) x y m k = front_both x y (f z) (flat_map f xs) (subst (λ w. Member x (f w)) (sym h.0) m) (member_flat_map f j y xs h.1 k)
front_flat f i j (z ∷ xs) (inr h) x y m k = front_right x y (f z) (flat_map f xs) (front_flat f i j xs h x y m k)

-- ---- numbers

pub counted_there : (low n i : ℕ) → low ≤ i → i < low + n → Member i (counted low n)
counted_there low zero i above below = absurd (omega (arith, above, below))
counted_there low (suc n) i above below =
    ⊎_elim (λ e. inl e) (λ l. inr (counted_there (suc low) n i (omega (arith, l)) (omega (arith, below)))) (eq-or-lt_of_le above)

pub counted_front : (low n i j : ℕ) → low ≤ i → i < j → j < low + n → InFront i j (counted low n)
counted_front low zero i j above less below = absurd (omega (arith, above, less, below))
counted_front low (suc n) i j above less below =
    ⊎_elim
    (λ e. inl (e, counted_there (suc low) n j (omega (arith, above, less)) (omega (arith, below))))
    (λ l. inr (counted_front (suc low) n i j (omega (arith, l)) less (omega (arith, below))))
    (eq-or-lt_of_le above)
