-- Slots at a place, and beyond all places.
use Rattle.std.proofs.Common.{◌≡◌, ℕ, zero, suc, ◌<◌, ◌≤◌, Bool, true, false, if◌then◌else◌, List, [], ◌∷◌, length, map, slice_index_or, slice_set, Option, Some, None, option_map, refl, sym, ap, ◌∙◌, subst, arith}
use Rattle.sp_spec.specs.Slots.{Slot, slot, slot_with, filled_at, value_at}
use Rattle.sp_term.specs.Bindings.{answer}

module _ {K A : Type 0} (alike : A → A → Bool) (admits : K → A → Bool) (beyond : Bool) (a : A) where
  if_mapped : {B C : Type 0} (f : B → C) (b : Bool) (x : B) → option_map f (if b then Some x else None) ≡ (if b then Some (f x) else None)
  if_mapped f true x = refl
  if_mapped f false x = refl

  pub filled_beyond : (slots : List (Slot K A)) (k : ℕ) → length slots ≤ k → filled_at alike admits beyond k a slots ≡ (if beyond then Some slots else None)
  filled_beyond [] k l = refl
  filled_beyond (s ∷ slots) zero l = absurd (omega (arith, l))
  filled_beyond (s ∷ slots) (suc k) l = ap (option_map (λ r. s ∷ r)) (filled_beyond slots k (omega (arith, l))) ∙ if_mapped (λ r. s ∷ r) beyond slots

  module _ {X : Type 0} (view : X → Slot K A) where
    -- what comes of the slot at the place
    abbrev pub Comes : X → Option (Slot K A) → Type 0
    Comes x o = slot_with alike admits a (view x).kind (view x).value ≡ o

    pub filled_none : (xs : List X) (k : ℕ) (x : X) → k < length xs → x ≡ slice_index_or xs k x → Comes x None → filled_at alike admits beyond k a (map view xs) ≡ None
    filled_none [] k x l e c = absurd (omega (arith, l))
    filled_none (y ∷ xs) zero x l e c = ap (option_map (λ r. r ∷ map view xs)) (subst (λ (z : X). Comes z None) e c)
    filled_none (y ∷ xs) (suc k) x l e c = ap (option_map (λ r. view y ∷ r)) (filled_none xs k x (omega (arith, l)) e c)

    pub filled_with : (xs : List X) (k : ℕ) (x z : X) → k < length xs → x ≡ slice_index_or xs k x → Comes x (Some (view z))
        → filled_at alike admits beyond k a (map view xs) ≡ Some (map view (slice_set xs k z))
    filled_with [] k x z l e c = absurd (omega (arith, l))
    filled_with (y ∷ xs) zero x z l e c = ap (option_map (λ r. r ∷ map view xs)) (subst (λ (w : X). Comes w (Some (view z))) e c)
    filled_with (y ∷ xs) (suc k) x z l e c = ap (option_map (λ r. view y ∷ r)) (filled_with xs k x z (omega (arith, l)) e c)

    pub filled_same : (xs : List X) (k : ℕ) (x : X) → k < length xs → x ≡ slice_index_or xs k x → Comes x (Some (view x))
        → filled_at alike admits beyond k a (map view xs) ≡ Some (map view xs)
    filled_same [] k x l e c = absurd (omega (arith, l))
    filled_same (y ∷ xs) zero x l e c = ap (option_map (λ r. r ∷ map view xs)) (subst (λ (w : X). Comes w (Some (view w))) e c)
    filled_same (y ∷ xs) (suc k) x l e c = ap (option_map (λ r. view y ∷ r)) (filled_same xs k x (omega (arith, l)) e c)

    -- the slot at the place has a value, or none, and in that case its binder doesn't admit the value or it takes it
    pub kept_value : (xs : List X) (k : ℕ) (x : X) → k < length xs → x ≡ slice_index_or xs k x → (v : A) → (view x).value ≡ Some v → (b : Bool) → b ≡ alike v a
        → answer b (map view xs) ≡ filled_at alike admits beyond k a (map view xs)
    kept_value xs k x l e v h true t =
        sym (filled_same xs k x l e (ap (slot_with alike admits a (view x).kind) h ∙ then_some_slot (alike v a) (sym t) ∙ ap (λ (o : Option A). Some (slot (view x).kind o)) (sym h)))
      where
        then_some_slot : (c : Bool) → c ≡ true → (if c then Some (slot (view x).kind (Some v)) else None) ≡ Some (slot (view x).kind (Some v))
        then_some_slot true p = refl
        then_some_slot false p = absurd cc
    kept_value xs k x l e v h false t = sym (filled_none xs k x l e (ap (slot_with alike admits a (view x).kind) h ∙ then_none (alike v a) (sym t)))
      where
        then_none : (c : Bool) → c ≡ false → (if c then Some (slot (view x).kind (Some v)) else None) ≡ None
        then_none true p = absurd cc
        then_none false p = refl

    pub refused_value : (xs : List X) (k : ℕ) (x : X) → k < length xs → x ≡ slice_index_or xs k x → (view x).value ≡ None → admits (view x).kind a ≡ false
        → None ≡ filled_at alike admits beyond k a (map view xs)
    refused_value xs k x l e h t =
        sym (filled_none xs k x l e (ap (slot_with alike admits a (view x).kind) h ∙ ap (λ b. if b then Some (slot (view x).kind (Some a)) else None) t))

    pub new_value : (xs : List X) (k : ℕ) (x z : X) → k < length xs → x ≡ slice_index_or xs k x → (view x).value ≡ None → admits (view x).kind a ≡ true
        → view z ≡ slot (view x).kind (Some a) → Some (map view (slice_set xs k z)) ≡ filled_at alike admits beyond k a (map view xs)
    new_value xs k x z l e h t made =
        sym
        (filled_with xs k x z l e
        (ap (slot_with alike admits a (view x).kind) h ∙ ap (λ b. if b then Some (slot (view x).kind (Some a)) else None) t ∙ ap Some (sym made)))

-- what stands at a place
module _ {K A X : Type 0} (view : X → Slot K A) where
  pub value_there : (xs : List X) (k : ℕ) (x : X) → k < length xs → x ≡ slice_index_or xs k x → value_at (map view xs) k ≡ (view x).value
  value_there [] k x l e = absurd (omega (arith, l))
  value_there (y ∷ xs) zero x l e = ap (λ (z : X). (view z).value) (sym e)
  value_there (y ∷ xs) (suc k) x l e = value_there xs k x (omega (arith, l)) e

  pub value_beyond : (xs : List X) (k : ℕ) → length xs ≤ k → value_at (map view xs) k ≡ None
  value_beyond [] k l = refl
  value_beyond (y ∷ xs) zero l = absurd (omega (arith, l))
  value_beyond (y ∷ xs) (suc k) l = value_beyond xs k (omega (arith, l))
