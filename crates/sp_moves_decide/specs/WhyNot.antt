-- Why a move that decides what is open is no instance, and the cases of these moves.
use Rattle.std.specs.Prelude.{ℕ, Bool, ◌&&◌, ◌||◌, if◌then◌else◌, List, Option, Some, None}
use Rattle.sp_spec.specs.Term.{Msg, Fresh, Pub}
use Rattle.sp_spec_system.specs.System.{System}
use Rattle.sp_spec_system.specs.Occurring.{has_time}
use Rattle.sp_spec_system.specs.Rules.{Rules}
use Rattle.sp_spec_system.specs.Move.{Side, fresh_side, public_side, constant_side, Move, compare, top, same, more_events, Case}
use Rattle.sp_spec_formula.specs.Top.{of_number, has_variable, top_cases}
use Rattle.sp_spec_formula.specs.Sides.{stands_there, is_undecided, same_cases}
use Rattle.sp_spec_graph.specs.Compare.{are_comparable, compare_cases}
use Rattle.sp_spec_graph.specs.More.{more_cases}
use Rattle.sp_moves.specs.Clause.{Clause, another_crate, absent, other_kind, condition}

-- both times are the system's, and it is open how they lie
abbrev pub why_not_compare : System → ℕ → ℕ → Option Clause
why_not_compare s i j = if has_time i s && has_time j s then (if are_comparable s i j then None else Some condition) else Some absent

-- a name of the number
abbrev pub has_name_variable : System → ℕ → Bool
has_name_variable s k = has_variable s (of_number Fresh k) || has_variable s (of_number Pub k)

-- the move asks for a message variable
abbrev pub why_not_top : System → ℕ → Option Clause
why_not_top s k = if has_variable s (of_number Msg k) then None else (if has_name_variable s k then Some other_kind else Some absent)

-- a variable of any sort
abbrev pub has_number : System → ℕ → Bool
has_number s k = has_variable s (of_number Msg k) || has_name_variable s k

-- the side's number or public name, whatever has it
abbrev pub stands_somewhere : List (List ℕ) → System → Side → Bool
stands_somewhere constants s (fresh_side k) = has_number s k
stands_somewhere constants s (public_side k) = has_number s k
stands_somewhere constants s (constant_side c) = stands_there constants s (constant_side c)

-- the sides are of the sorts that stand there, and it is open whether they are the same
abbrev pub why_not_sides : List (List ℕ) → System → Side → Side → Option Clause
why_not_sides constants s a b =
    if stands_there constants s a && stands_there constants s b then (if is_undecided constants s a b then None else Some condition) else Some other_kind

abbrev pub why_not_same : List (List ℕ) → System → Side → Side → Option Clause
why_not_same constants s a b =
    if stands_somewhere constants s a && stands_somewhere constants s b then why_not_sides constants s a b else Some absent

-- something more may happen
abbrev pub why_not_more : System → Option Clause
why_not_more s = if s.closed then Some condition else None

-- the public names are those that stand in the theory
abbrev pub why_not_decide : List (List ℕ) → System → Move → Option Clause
why_not_decide constants s (compare i j) = why_not_compare s i j
why_not_decide constants s (top k) = why_not_top s k
why_not_decide constants s (same a b) = why_not_same constants s a b
why_not_decide constants s more_events = why_not_more s
why_not_decide constants s move = Some another_crate

-- the cases of such a move before they are simplified; none where it is no instance
abbrev pub deciding_cases : Rules → List (List ℕ) → System → Move → Option (List Case)
deciding_cases rules constants s (compare i j) = compare_cases s i j
deciding_cases rules constants s (top k) = top_cases rules.signature.symbols s k
deciding_cases rules constants s (same a b) = same_cases constants s a b
deciding_cases rules constants s more_events = more_cases rules.forms s
deciding_cases rules constants s move = None
