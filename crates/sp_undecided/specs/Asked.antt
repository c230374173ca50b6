-- Which comparisons are asked for, by what is asked of two times.
use Rattle.std.specs.Prelude.{ℕ, Bool, false}
use Rattle.sp_spec.specs.Guarded.{Time, free_time}
use Rattle.sp_spec_system.specs.System.{System}
use Rattle.sp_spec_proof.specs.Deciding.{are_these}
use Rattle.sp_undecided.specs.Undecided.{are_unordered, are_told_unordered}
use Rattle.sp_undecided.specs.declared.times.Asked.{Asked}
use Rattle.sp_undecided.specs.declared.times.Asked.TheVariants.{Told, Every}

abbrev pub is_asked : Asked → System → ℕ → ℕ → Bool
is_asked Told s i j = are_told_unordered s i j
is_asked Every s i j = are_unordered s i j

-- the times of a formula are these two, in either order
abbrev pub are_moments : ℕ → ℕ → Time → Time → Bool
are_moments i j (free_time k) (free_time l) = are_these i j k l
are_moments i j t u = false
