-- Order: times of which the one is said to be before the other, or not. Source: CSF 2012, "Constraint solving" (the rules on the order).
-- The elementary move and its contradiction.
use Rattle.std.specs.Prelude.{ℕ, Bool, if◌then◌else◌, List, [], Option, Some, None, ◌==◌, ◌||◌, ◌∷◌, option_map, false}
use Rattle.sp_spec.specs.Guarded.{free_time, same_time, before, Guarded, holds, fails}
use Rattle.sp_spec_system.specs.Order.{is_before}
use Rattle.sp_spec_system.specs.System.{System, with_pairs}
use Rattle.sp_spec_system.specs.Formulas.{Found, spending, first_formula}

-- Order: of two times the one is before the other.
-- a literal that the order pairs make true adds none
abbrev pub nothing_if : Bool → Option (List (ℕ × ℕ))
nothing_if b = if b then Some [] else None

-- the order pairs that stand for the literal
abbrev pub order_of : List (ℕ × ℕ) → Guarded → Option (List (ℕ × ℕ))
order_of order (holds (before (free_time i) (free_time j))) = Some ((i, j) ∷ [])
order_of order (fails (same_time (free_time i) (free_time j))) = nothing_if (is_before order i j || is_before order j i)
order_of order (fails (before (free_time i) (free_time j))) = nothing_if ((i == j) || is_before order j i)
order_of order f = None

abbrev pub ordered_at : System → Found (List (ℕ × ℕ)) → System
ordered_at s r = with_pairs (spending s r []) r.picked

abbrev pub in_order : System → Option System
in_order s = option_map (ordered_at s) (first_formula (order_of s.order) s.formulas)

-- Refuted literal: a time is said to differ from itself, or not to be before one that it is before.
abbrev pub is_refuted : List (ℕ × ℕ) → Guarded → Bool
is_refuted order (fails (same_time (free_time i) (free_time j))) = i == j
is_refuted order (fails (before (free_time i) (free_time j))) = is_before order i j
is_refuted order f = false

abbrev pub has_refuted : List (ℕ × ℕ) → List Guarded → Bool
has_refuted order [] = false
has_refuted order (f ∷ fs) = is_refuted order f || has_refuted order fs
