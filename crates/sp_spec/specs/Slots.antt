-- What quantifiers bind, the innermost first, as far as its values are known.
use Rattle.std.specs.Prelude.{ℕ, zero, suc, Bool, if◌then◌else◌, List, [], ◌∷◌, Option, Some, None, option_map}

-- a binder, by what it ranges over, and its value once it has one
pub record Slot (K A : Type 0) : Type 0 where
  pub kind : K
  pub value : Option A

abbrev pub slot : {K A : Type 0} → K → Option A → Slot K A
slot kind value = record { kind = kind; value = value }

-- What comes of a slot that is to have this value: nothing, if it has another, or if its binder doesn't admit the value. The tests tell
-- whether two values are the same, and whether a binder admits a value.
abbrev pub slot_with : {K A : Type 0} → (A → A → Bool) → (K → A → Bool) → A → K → Option A → Option (Slot K A)
slot_with alike admits a kind None = if admits kind a then Some (slot kind (Some a)) else None
slot_with alike admits a kind (Some b) = if alike b a then Some (slot kind (Some b)) else None

-- the same of the slot at a place; beyond the binders it is said whether the value may stand
abbrev pub filled_at : {K A : Type 0} → (A → A → Bool) → (K → A → Bool) → Bool → ℕ → A → List (Slot K A) → Option (List (Slot K A))
filled_at alike admits beyond k a [] = if beyond then Some [] else None
filled_at alike admits beyond zero a (s ∷ slots) = option_map (λ r. r ∷ slots) (slot_with alike admits a s.kind s.value)
filled_at alike admits beyond (suc k) a (s ∷ slots) = option_map (λ rest. s ∷ rest) (filled_at alike admits beyond k a slots)

-- the value at a place, if there is one
abbrev pub value_at : {K A : Type 0} → List (Slot K A) → ℕ → Option A
value_at [] k = None
value_at (s ∷ slots) zero = s.value
value_at (s ∷ slots) (suc k) = value_at slots k
