-- The cases of two terms of which it is open whether they are the same, if it is.
use Rattle.std.specs.Prelude.{ℕ, Bool, ◌&&◌, if◌then◌else◌, List, [], ◌∷◌, ◌++◌, Option, Some, None, codes}
use Rattle.sp_spec.specs.Term.{Variable, Term}
use Rattle.sp_spec.specs.Guarded.{same, holds}
use Rattle.sp_spec.specs.Change.{placed}
use Rattle.sp_spec_system.specs.System.{System, with_unequal}
use Rattle.sp_spec_system.specs.Move.{Side, Case}
use Rattle.sp_spec_formula.specs.Instantiate.{with_formula}
use Rattle.sp_spec_formula.specs.Sides.{are_in_order, stands_there, are_apart}

-- the sides are in order, and stand in the system
abbrev pub are_there : List (List ℕ) → System → Side → Side → Bool
are_there constants s a b = are_in_order a b && (stands_there constants s a && stands_there constants s b)

abbrev pub each_way : System → Term Variable → Term Variable → List Case
each_way s t u =
    record { name = codes "same"; system = with_formula s (holds (same (placed t) (placed u))) }
    ∷ record { name = codes "unequal"; system = with_unequal s (s.unequal ++ (t, u) ∷ []) } ∷ []

abbrev pub open_cases : System → Term Variable → Term Variable → Option (List Case)
open_cases s t u = if are_apart s.unequal t u then None else Some (each_way s t u)
