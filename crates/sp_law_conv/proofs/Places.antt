-- The elements of a list and their places.
use Rattle.std.proofs.Common.{inl, inr, ℕ, suc, List, [], ◌∷◌}
use Rattle.sp_spec.specs.Lists.{Member, AtPlace}

-- an element has a place
pub member_place : {A : Type 0} (xs : List A) (x : A) → Member x xs → (k : ℕ) × AtPlace xs k x
member_place [] x m = absurd m
member_place (y ∷ xs) x (inl e) = (0, e)
member_place (y ∷ xs) x (inr m) = let r = member_place xs x m in (suc r.0, r.1)
