-- The test of whether anything is left to decide in a system, where no two events have one time and its names are the constants. Source: as in Decided.antt.
use Rattle.std.specs.Prelude.{ℕ, ◌==◌, Bool, not, ◌&&◌, ◌||◌, is_some, List}
use Rattle.std.specs.List.{list_all}
use Rattle.sp_spec.specs.Term.{Msg, Pub, Variable, var, constant}
use Rattle.sp_spec.specs.Same.{same_sort, same_variable}
use Rattle.sp_spec_system.specs.System.{System}
use Rattle.sp_spec_system.specs.Order.{is_before}
use Rattle.sp_spec_formula.specs.Sides.{are_apart}
use Rattle.sp_spec_solved.specs.Naming.{in_events}
use Rattle.sp_spec_solved.specs.Candidate.{candidate}
use Rattle.sp_law_decided.specs.Decided.{told_times}

-- the times are one, or one is before the other
abbrev pub is_compared : List (ℕ × ℕ) → ℕ → ℕ → Bool
is_compared order i j = (i == j) || (is_before order i j || is_before order j i)

abbrev pub are_compared : List (ℕ × ℕ) → List ℕ → Bool
are_compared order times = list_all (λ i. list_all (is_compared order i) times) times

-- the variables are one, are of different sorts, or stand as an unequal pair
abbrev pub is_told : System → Variable → Variable → Bool
is_told s x y = same_variable x y || (not (same_sort x.sort y.sort) || are_apart s.unequal (var x) (var y))

-- the variable isn't public, or stands as an unequal pair with each of the constants
abbrev pub is_told_from : System → List (List ℕ) → Variable → Bool
is_told_from s constants x = not (same_sort x.sort Pub) || list_all (λ c. are_apart s.unequal (var x) (constant c)) constants

abbrev pub is_named : Variable → Bool
is_named x = not (same_sort x.sort Msg)

-- the system is closed, no variable is of sort msg, variables and constants are told apart, and the system suggests a log
abbrev pub all_else : List (List ℕ) → System → Bool
all_else constants s =
    s.closed
    && (list_all is_named (in_events s.events)
    && (list_all (λ (x : Variable). list_all (is_told s x) (in_events s.events)) (in_events s.events)
    && (list_all (is_told_from s constants) (in_events s.events)
    && is_some (candidate constants s))))

-- and all times are compared
abbrev pub leaves_nothing : List (List ℕ) → System → Bool
leaves_nothing constants s = are_compared s.order (told_times s) && all_else constants s
