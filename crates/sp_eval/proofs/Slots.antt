-- Whether what stands at a place has a value.
use Rattle.std.proofs.Common.{◌≡◌, ℕ, zero, suc, ◌<◌, ◌≤◌, true, List, [], ◌∷◌, length, map, slice_index_or, Option, Some, None, option_map, is_some, refl, sym, ap, arith}
use Rattle.sp_spec.specs.Slots.{Slot}
use Rattle.sp_law_decide.specs.Deciding.{is_filled}

module _ {K A X : Type 0} (view : X → Slot K A) where
  pub filled_there : (xs : List X) (k : ℕ) (x : X) → k < length xs → x ≡ slice_index_or xs k x → is_filled (map view xs) k ≡ is_some (view x).value
  filled_there [] k x l e = absurd (omega (arith, l))
  filled_there (y ∷ xs) zero x l e = ap (λ (z : X). is_some (view z).value) (sym e)
  filled_there (y ∷ xs) (suc k) x l e = filled_there xs k x (omega (arith, l)) e

  pub beyond_filled : (xs : List X) (k : ℕ) → length xs ≤ k → is_filled (map view xs) k ≡ true
  beyond_filled [] k l = refl
  beyond_filled (y ∷ xs) zero l = absurd (omega (arith, l))
  beyond_filled (y ∷ xs) (suc k) l = beyond_filled xs k (omega (arith, l))

pub is_some_mapped : {A B : Type 0} (f : A → B) (o : Option A) → is_some o ≡ is_some (option_map f o)
is_some_mapped f None = refl
is_some_mapped f (Some x) = refl
