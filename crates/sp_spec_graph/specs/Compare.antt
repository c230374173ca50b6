-- The move on two times: the one is before the other, or they are one. Source: CSF 2012, "Constraint solving" (the order of timepoints); that times are compared
-- by a move is this project's own.
use Rattle.std.specs.Prelude.{ℕ, Bool, not, ◌&&◌, ◌||◌, nat_lt, if◌then◌else◌, List, [], ◌∷◌, Option, Some, None, codes}
use Rattle.sp_spec.specs.Guarded.{free_time, same_time, holds}
use Rattle.sp_spec_system.specs.System.{System, with_pairs}
use Rattle.sp_spec_system.specs.Order.{is_before}
use Rattle.sp_spec_system.specs.Occurring.{has_time}
use Rattle.sp_spec_system.specs.Move.{Case}
use Rattle.sp_spec_formula.specs.Induction.{is_empty}
use Rattle.sp_spec_formula.specs.Instantiate.{with_formula}

-- two times of the system, the lower number first, of which neither is before the other; where it has an event, since over the empty log no time has a position
abbrev pub are_comparable : System → ℕ → ℕ → Bool
are_comparable s i j = not (is_empty s.events) && (nat_lt i j && (has_time i s && (has_time j s && not (is_before s.order i j || is_before s.order j i))))

abbrev pub compare_cases : System → ℕ → ℕ → Option (List Case)
compare_cases s i j =
    if are_comparable s i j then Some (
    record { name = codes "before"; system = with_pairs s ((i, j) ∷ []) }
    ∷ record { name = codes "same"; system = with_formula s (holds (same_time (free_time i) (free_time j))) }
    ∷ record { name = codes "after"; system = with_pairs s ((j, i) ∷ []) } ∷ [])
    else None
