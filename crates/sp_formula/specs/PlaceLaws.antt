-- That places in memory are equal just where the test of what they stand for tells so.
use Rattle.std.proofs.Common.{◌≡◌, refl}
use Rattle.sp_spec.specs.Guarded.{Place}
use Rattle.sp_spec.specs.SameFormula.{same_place}
use Rattle.sp_term.specs.LeafLaws.{variable_tests}
use Rattle.sp_formula.specs.PlaceView.{place_of}
use Rattle.sp_formula.specs.declared.place.Place as memory
use Rattle.sp_formula.specs.declared.place.Place.TheVariants.{Bound, Free}
use Rattle.sp_formula.specs.contracts.place.PlacePartialEq.TheImpl as places

pub place_tests : (x y : memory.Place) → places.ghosts.eq x y ≡ same_place (place_of x) (place_of y)
place_tests (Bound k) (Bound j) = refl
place_tests (Bound k) (Free y) = refl
place_tests (Free x) (Bound j) = refl
place_tests (Free x) (Free y) = variable_tests x y
