-- The parts of formulas that were put together from a list are those of the list.
use Rattle.std.proofs.Common.{◌≡◌, List, [], ◌∷◌, refl, ap}
use Rattle.sp_spec.specs.Guarded.{Guarded, parts_of, guardeds_of}

pub parts_so : (gs : List Guarded) → parts_of (guardeds_of gs) ≡ gs
parts_so [] = refl
parts_so (g ∷ gs) = ap (λ (hs : List Guarded). g ∷ hs) (parts_so gs)
