-- Lists by their places: equal lists, the oldest entry first, and times that rise over all positions.
use Rattle.std.proofs.Common.{◌≡◌, ⊎_elim, ◌≤◌, ◌<◌, ℕ, zero, suc, ◌+◌, List, [], ◌∷◌, ◌++◌, length, inl, inr, refl, sym, ap, ap₂, ◌∙◌, subst, arith}
use Rattle.std.proofs.Math.Nat.{eq-or-lt_of_le}
use Rattle.sp_spec.specs.Lists.{Member, Every, AtPlace, AtPosition, newest_first}
use Rattle.sp_spec.proofs.Lists.{every_member, every_weaken, newest_count}

-- lists that have the same at each place
pub same_lists : {A : Type 0} (xs ys : List A) → length xs ≡ length ys → ((k : ℕ) (x : A) → AtPlace xs k x → AtPlace ys k x) → xs ≡ ys
same_lists [] [] e h = refl
same_lists [] (y ∷ ys) e h = absurd (omega arith)
same_lists (x ∷ xs) [] e h = absurd (omega arith)
same_lists (x ∷ xs) (y ∷ ys) e h = ap₂ (λ a as'. a ∷ as') (sym (h zero x refl)) (same_lists xs ys (omega arith) (λ k z p. h (suc k) z p))

-- ---- the oldest first

place_front : {A : Type 0} (xs ys : List A) (k : ℕ) (x : A) → AtPlace xs k x → AtPlace (xs ++ ys) k x
place_front [] ys k x a = absurd a
place_front (z ∷ xs) ys zero x a = a
place_front (z ∷ xs) ys (suc k) x a = place_front xs ys k x a

place_end : {A : Type 0} (xs : List A) (x : A) → AtPlace (xs ++ x ∷ []) (length xs) x
place_end [] x = refl
place_end (z ∷ xs) x = place_end xs x

-- what stands at a position stands at that place of the list that has the oldest first
pub position_place : {A : Type 0} (xs : List A) (p : ℕ) (x : A) → AtPosition xs p x → AtPlace (newest_first xs) p x
position_place [] p x a = absurd a
position_place (y ∷ xs) p x (inl a) =
    subst (λ (z : _). AtPlace (newest_first xs ++ y ∷ []) p z) a.1
    (subst (λ (q : ℕ). AtPlace (newest_first xs ++ y ∷ []) q y) (newest_count xs ∙ sym a.0) (place_end (newest_first xs) y))
position_place (y ∷ xs) p x (inr a) = place_front (newest_first xs) (y ∷ []) p x (position_place xs p x a)

-- ---- times that rise

module _ {A : Type 0} (t : A → ℕ) where
  abbrev pub Rises : List A → Type 0
  Rises [] = Unit {0}
  Rises (x ∷ xs) = Every (λ y. t x < t y) xs × Rises xs

  -- they are the numbers from one on
  abbrev pub Counts : ℕ → List A → Type 0
  Counts low [] = Unit {0}
  Counts low (x ∷ xs) = (t x ≡ low) × Counts (suc low) xs

  abbrev Hit : ℕ → ℕ → List A → Type 0
  Hit low n xs = (p : ℕ) → low ≤ p → p < n → (x : A) × Member x xs × (t x ≡ p)

  counts_place : (low : ℕ) (xs : List A) → Counts low xs → (k : ℕ) (x : A) → AtPlace xs k x → t x ≡ low + k
  counts_place low [] c k x a = absurd a
  counts_place low (y ∷ xs) c zero x a = ap t (sym a) ∙ c.0 ∙ omega arith
  counts_place low (y ∷ xs) c (suc k) x a = counts_place (suc low) xs c.1 k x a ∙ omega arith

  pub counts_first : (xs : List A) → Counts zero xs → (k : ℕ) (x : A) → AtPlace xs k x → t x ≡ k
  counts_first xs c k x a = counts_place zero xs c k x a ∙ omega arith

  none_hit : (low n : ℕ) → low ≤ n → Hit low n [] → low ≡ n
  none_hit low n h hit = ⊎_elim (λ e. e) (λ l. absurd (hit low (omega arith) l).1) (eq-or-lt_of_le h)

  -- the least is the first
  first_is : (low : ℕ) (x : A) (xs : List A) → low ≤ t x → Every (λ y. t x < t y) xs → (y : A) → Member y (x ∷ xs) → t y ≡ low → t x ≡ low
  first_is low x xs above rises y (inl e) is = ap t e ∙ is
  first_is low x xs above rises y (inr m) is = let l = every_member (λ z. t x < t z) xs y m rises in absurd (omega arith)

  -- the others are later
  later_hit : (low n : ℕ) (x : A) (xs : List A) → t x ≡ low → Hit low n (x ∷ xs) → Hit (suc low) n xs
  later_hit low n x xs is hit p above below = at (hit p (omega arith) below)
    where
      at : (y : A) × Member y (x ∷ xs) × (t y ≡ p) → (y : A) × Member y xs × (t y ≡ p)
      at r = by r.0 r.1 r.2
        where
          by : (y : A) → Member y (x ∷ xs) → t y ≡ p → (z : A) × Member z xs × (t z ≡ p)
          by y (inl e) f = let same = ap t e in absurd (omega arith)
          by y (inr m) f = (y, m, f)

  -- times below a limit that rise and leave none out are all of them in order
  pub counted : (xs : List A) (low n : ℕ) → low ≤ n → Rises xs → Every (λ x. low ≤ t x) xs → Every (λ x. t x < n) xs → Hit low n xs → Counts low xs × (low + length xs ≡ n)
  counted [] low n h rises above below hit = let e = none_hit low n h hit in (tt, omega arith)
  counted (x ∷ xs) low n h rises above below hit =
      let a = above.0 in
      let b = below.0 in
      let f = hit low (omega arith) (omega arith) in
      let is = first_is low x xs above.0 rises.0 f.0 f.1 f.2 in
      let later : Every (λ y. suc low ≤ t y) xs = every_weaken (λ y. t x < t y) (λ y. suc low ≤ t y) (λ y l. omega arith) xs rises.0 in
      let rest = counted xs (suc low) n (omega arith) rises.1 later below.1 (later_hit low n x xs is hit) in
      let sum = rest.1 in ((is, rest.0), omega arith)
