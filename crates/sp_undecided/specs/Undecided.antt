-- Of which two times, and of which two names, something is open, asked of those alone that stand in the system.
use Rattle.std.specs.Prelude.{ℕ, Bool, not, ◌&&◌, ◌||◌, nat_lt, List, filter}
use Rattle.std.specs.List.{list_any}
use Rattle.sp_spec_system.specs.System.{System}
use Rattle.sp_spec_system.specs.Order.{is_before}
use Rattle.sp_spec_system.specs.Occurring.{has_time}
use Rattle.sp_spec_system.specs.Move.{Side, Move, compare, same}
use Rattle.sp_spec_formula.specs.Induction.{is_empty}
use Rattle.sp_spec_formula.specs.Sides.{side_term, are_in_order, stands_there, are_apart}
use Rattle.sp_spec_proof.specs.Deciding.{counted, tells_apart, sides}

abbrev pub compare_both : ℕ × ℕ → Move
compare_both p = compare p.0 p.1

abbrev pub same_both : Side × Side → Move
same_both p = same p.0 p.1

-- ---- two times

abbrev pub standing_times : System → List ℕ
standing_times s = filter (λ i. has_time i s) (counted 0 s.next)

-- something happens, the lower number is first, and neither time is before the other
abbrev pub are_unordered : System → ℕ → ℕ → Bool
are_unordered s i j = not (is_empty s.events) && (nat_lt i j && not (is_before s.order i j || is_before s.order j i))

-- a formula says so of the two times
abbrev pub are_told : System → ℕ → ℕ → Bool
are_told s i j = list_any (tells_apart i j) s.formulas

abbrev pub are_told_unordered : System → ℕ → ℕ → Bool
are_told_unordered s i j = are_unordered s i j && are_told s i j

-- ---- two names

abbrev pub standing_sides : List (List ℕ) → System → List Side
standing_sides constants s = filter (stands_there constants s) (sides constants s)

-- they are in order, and aren't known to differ
abbrev pub may_be_same : System → Side → Side → Bool
may_be_same s a b = are_in_order a b && not (are_apart s.unequal (side_term a) (side_term b))
