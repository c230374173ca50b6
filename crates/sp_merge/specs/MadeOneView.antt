-- Two events at two times, by their positions.
use Rattle.std.specs.Prelude.{ℕ, suc, Bool, List, [], ◌∷◌, Option, Some, None, option_map, option_and_then, if◌then◌else◌, take, drop, ◌++◌}
use Rattle.sp_spec_system.specs.System.{Event}
use Rattle.sp_spec_system.specs.MakingOne.{MergingEvents}

-- the position of the first event that is one with this one
abbrev pub merging_position : (Event → Event → Bool) → Event → List Event → Option ℕ
merging_position one e [] = None
merging_position one e (d ∷ es) = if one e d then Some 0 else option_map suc (merging_position one e es)

abbrev pub both_on : ℕ × ℕ → ℕ × ℕ
both_on p = (suc p.0, suc p.1)

abbrev pub merging_after : Option ℕ → Option (ℕ × ℕ) → Option (ℕ × ℕ)
merging_after (Some k) later = Some (0, suc k)
merging_after None later = option_map both_on later

-- the positions of the first merging
abbrev pub merging_positions : (Event → Event → Bool) → List Event → Option (ℕ × ℕ)
merging_positions one [] = None
merging_positions one (e ∷ es) = merging_after (merging_position one e es) (merging_positions one es)

abbrev pub merging_at : Event → Event → List Event → ℕ → MergingEvents
merging_at a b es j = record { first = a; second = b; others = take j es ++ drop (suc j) es }

abbrev pub head_of : List Event → Option Event
head_of [] = None
head_of (e ∷ es) = Some e

-- the merging at two positions
abbrev pub merging_there : List Event → ℕ × ℕ → Option MergingEvents
merging_there es p = option_and_then (λ a. option_map (λ b. merging_at a b es p.1) (head_of (drop p.1 es))) (head_of (drop p.0 es))
