-- What comes of giving a slot a value.
use Rattle.std.proofs.Common.{◌≡◌, ℕ, zero, suc, Bool, true, List, [], ◌∷◌, Option, Some, None, sym, subst}
use Rattle.sp_spec.specs.Slots.{Slot, slot, slot_with, filled_at, value_at}
use Rattle.sp_spec.proofs.Options.{some_same, if_some, mapped}

module _ {K A : Type 0} (G : K → A → Type 0) where
  -- it holds of each value that a slot has
  abbrev pub IsGoodValue : K → Option A → Type 0
  IsGoodValue kind None = Unit {0}
  IsGoodValue kind (Some a) = G kind a

  abbrev pub AreGood : List (Slot K A) → Type 0
  AreGood [] = Unit {0}
  AreGood (s ∷ slots) = IsGoodValue s.kind s.value × AreGood slots

  pub value_at_good : (slots : List (Slot K A)) → AreGood slots → (k : ℕ) (a : A) → value_at slots k ≡ Some a → (kind : K) × G kind a
  value_at_good [] h k a e = absurd cc
  value_at_good (s ∷ slots) h zero a e = (s.kind, subst (IsGoodValue s.kind) e h.0)
  value_at_good (s ∷ slots) h (suc k) a e = value_at_good slots h.1 k a e

module _ {K A : Type 0} (alike : A → A → Bool) (admits : K → A → Bool) (beyond : Bool) (a : A) where
  -- What holds of each way to give a value holds of the slots before and after.
  pub record Fills (R : ℕ → List (Slot K A) → List (Slot K A) → Type 0) : Type 0 where
    pub past : (k : ℕ) → beyond ≡ true → R k [] []
    pub new : (kind : K) (slots : List (Slot K A)) → admits kind a ≡ true → R zero (slot kind None ∷ slots) (slot kind (Some a) ∷ slots)
    pub old : (kind : K) (b : A) (slots : List (Slot K A)) → alike b a ≡ true → R zero (slot kind (Some b) ∷ slots) (slot kind (Some b) ∷ slots)
    pub further : (s : Slot K A) (k : ℕ) (small large : List (Slot K A)) → R k small large → R (suc k) (s ∷ small) (s ∷ large)

  module _ (R : ℕ → List (Slot K A) → List (Slot K A) → Type 0) (fills : Fills R) where
    with_filled : (kind : K) (o : Option A) (slots : List (Slot K A)) (r : Slot K A) → slot_with alike admits a kind o ≡ Some r → R zero (slot kind o ∷ slots) (r ∷ slots)
    with_filled kind None slots r e =
        let new : Slot K A = slot kind (Some a) in
        let h = if_some (admits kind a) (Some new) r e in
        subst (λ (x : Slot K A). R zero (slot kind None ∷ slots) (x ∷ slots)) (sym (some_same new r h.1)) (fills.new kind slots h.0)
    with_filled kind (Some b) slots r e =
        let old : Slot K A = slot kind (Some b) in
        let h = if_some (alike b a) (Some old) r e in
        subst (λ (x : Slot K A). R zero (old ∷ slots) (x ∷ slots)) (sym (some_same old r h.1)) (fills.old kind b slots h.0)

    pub filled_so : (k : ℕ) (small large : List (Slot K A)) → filled_at alike admits beyond k a small ≡ Some large → R k small large
    filled_so k [] large e =
        let none : List (Slot K A) = [] in
        let h = if_some beyond (Some none) large e in
        subst (R k []) (sym (some_same none large h.1)) (fills.past k h.0)
    filled_so zero (s ∷ small) large e =
        let h = mapped (λ (r : Slot K A). r ∷ small) (slot_with alike admits a s.kind s.value) large e in
        subst (R zero (s ∷ small)) (sym h.2) (with_filled s.kind s.value small h.0 h.1)
    filled_so (suc k) (s ∷ small) large e =
        let h = mapped (λ (r : List (Slot K A)). s ∷ r) (filled_at alike admits beyond k a small) large e in
        subst (R (suc k) (s ∷ small)) (sym h.2) (fills.further s k small h.0 (filled_so k small h.0 h.1))
