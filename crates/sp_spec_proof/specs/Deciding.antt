-- The moves that decide what a system leaves open, from the lowest numbers on: how two times lie, whether two names are the same, and what stands for a message.
-- Source: this project's own (CSF 2012, "Constraint solving", leaves such questions open).
use Rattle.std.specs.Prelude.{ℕ, zero, suc, ◌==◌, ◌&&◌, ◌||◌, Bool, false, if◌then◌else◌, List, [], ◌∷◌, ◌++◌, map, flat_map}
use Rattle.std.specs.List.{list_any}
use Rattle.std.specs.Ordering.{is_lt, nat_cmp}
use Rattle.std.specs.Cmp.Lexicographic.{slice_cmp}
use Rattle.sp_spec.specs.Guarded.{free_time, same_time, before, Guarded, fails}
use Rattle.sp_spec_system.specs.System.{System}
use Rattle.sp_spec_system.specs.Move.{Side, fresh_side, public_side, constant_side, Move, compare, top, same, Context}

-- so many numbers, from one on
abbrev pub counted : ℕ → ℕ → List ℕ
counted first zero = []
counted first (suc n) = first ∷ counted (suc first) n

-- the moves on each element and each one behind it
abbrev pub each_two : {A : Type 0} → (A → A → List Move) → List A → List Move
each_two moves [] = []
each_two moves (x ∷ xs) = flat_map (moves x) xs ++ each_two moves xs

-- ---- two times

abbrev pub are_these : ℕ → ℕ → ℕ → ℕ → Bool
are_these i j k l = (k == i) && (l == j) || (k == j) && (l == i)

-- the formula says that they aren't one, or that the one isn't before the other
abbrev pub tells_apart : ℕ → ℕ → Guarded → Bool
tells_apart i j (fails (same_time (free_time k) (free_time l))) = are_these i j k l
tells_apart i j (fails (before (free_time k) (free_time l))) = are_these i j k l
tells_apart i j f = false

abbrev pub compare_told : System → ℕ → ℕ → List Move
compare_told s i j = if list_any (tells_apart i j) s.formulas then compare i j ∷ [] else []

-- the times of which a formula says so
abbrev pub told_comparisons : Context → System → List Move
told_comparisons context s = each_two (compare_told s) (counted 0 s.next)

abbrev pub comparisons : Context → System → List Move
comparisons context s = each_two (λ i j. compare i j ∷ []) (counted 0 s.next)

-- ---- two names

-- before the first name that it isn't behind, by their bytes
abbrev pub placed_by_bytes : List ℕ → List (List ℕ) → List (List ℕ)
placed_by_bytes c [] = c ∷ []
placed_by_bytes c (d ∷ ds) = if is_lt (slice_cmp nat_cmp d c) then d ∷ placed_by_bytes c ds else c ∷ d ∷ ds

abbrev pub sorted_by_bytes : List (List ℕ) → List (List ℕ)
sorted_by_bytes [] = []
sorted_by_bytes (c ∷ cs) = placed_by_bytes c (sorted_by_bytes cs)

abbrev pub sides_at : ℕ → List Side
sides_at k = fresh_side k ∷ public_side k ∷ []

-- variables, and behind them the theory's public names (a system of a proof has no others)
abbrev pub sides : List (List ℕ) → System → List Side
sides constants s = flat_map sides_at (counted 0 s.next) ++ map constant_side (sorted_by_bytes constants)

abbrev pub sames : Context → System → List Move
sames context s = each_two (λ a b. same a b ∷ []) (sides context.public_names s)

-- ---- a message

abbrev pub tops : Context → System → List Move
tops context s = map top (counted 0 s.next)
