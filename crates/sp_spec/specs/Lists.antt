-- Words for lists that the definitions share. Executions, logs and traces are lists with the newest element first,
-- so that what came earlier than an element is what stands behind it.
use Rattle.std.specs.Prelude.{◌≡◌, ◌⊎◌, ℕ, zero, suc, Bool, false, ◌||◌, List, [], ◌∷◌, ◌++◌, length}
use Rattle.std.specs.Str.{bytes_eq}

-- the element stands in the list
abbrev pub Member : {A : Type 0} → A → List A → Type 0
Member x [] = ⊥
Member x (y ∷ ys) = (y ≡ x) ⊎ Member x ys

-- whether a name stands in the list
abbrev pub is_listed : List ℕ → List (List ℕ) → Bool
is_listed x [] = false
is_listed x (y ∷ ys) = bytes_eq y x || is_listed x ys

-- the other way round: what stands oldest first has its newest element first, and back
abbrev pub newest_first : {A : Type 0} → List A → List A
newest_first [] = []
newest_first (x ∷ xs) = newest_first xs ++ x ∷ []

-- it holds of each element
abbrev pub Every : {A : Type 0} → (A → Type 0) → List A → Type 0
Every P [] = Unit {0}
Every P (x ∷ xs) = P x × Every P xs

-- no element stands in it twice
abbrev pub Distinct : {A : Type 0} → List A → Type 0
Distinct [] = Unit {0}
Distinct (x ∷ xs) = (Member x xs → ⊥) × Distinct xs

-- the element at a place, counted from 0 at the front
abbrev pub AtPlace : {A : Type 0} → List A → ℕ → A → Type 0
AtPlace [] k x = ⊥
AtPlace (y ∷ ys) zero x = y ≡ x
AtPlace (y ∷ ys) (suc k) x = AtPlace ys k x

-- the element at a position of a list with the newest first: the oldest is at position 0
abbrev pub AtPosition : {A : Type 0} → List A → ℕ → A → Type 0
AtPosition [] p x = ⊥
AtPosition (y ∷ past) p x = ((p ≡ length past) × (y ≡ x)) ⊎ AtPosition past p x

-- It isn't so that it isn't so. Truth is that of classical logic, while proofs here are constructive: what classical
-- logic says of "or" and "there is" is said in this form.
abbrev pub Classically : Type 0 → Type 0
Classically A = (A → ⊥) → ⊥
