-- What stands at places of a list.
use Rattle.std.proofs.Common.{ℕ, zero, suc, List, [], ◌∷◌, refl, subst}
use Rattle.sp_spec.specs.Lists.{Every, AtPlace}

-- what holds of each element holds of that at a place
pub every_place : {A : Type 0} (P : A → Type 0) (xs : List A) (k : ℕ) (x : A) → AtPlace xs k x → Every P xs → P x
every_place P [] k x a h = absurd a
every_place P (y ∷ xs) zero x a h = subst P a h.0
every_place P (y ∷ xs) (suc k) x a h = every_place P xs k x a h.1

-- what holds of the element at each place holds of each
pub each_placed : {A : Type 0} (P : A → Type 0) (xs : List A) → ((k : ℕ) (x : A) → AtPlace xs k x → P x) → Every P xs
each_placed P [] h = tt
each_placed P (x ∷ xs) h = (h zero x refl, each_placed P xs (λ k y a. h (suc k) y a))
