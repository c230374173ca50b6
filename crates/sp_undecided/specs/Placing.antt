-- At which place a name is put among names that are sorted by their bytes.
use Rattle.std.specs.Prelude.{ℕ, suc, if◌then◌else◌, List, [], ◌∷◌}
use Rattle.std.specs.Ordering.{is_lt, nat_cmp}
use Rattle.std.specs.Cmp.Lexicographic.{slice_cmp}

-- how many of the names in front are before it
abbrev pub count_before : List ℕ → List (List ℕ) → ℕ
count_before c [] = 0
count_before c (d ∷ ds) = if is_lt (slice_cmp nat_cmp d c) then suc (count_before c ds) else 0
