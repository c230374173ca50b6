-- Calls that are counted, and those of them that are to fail.
use Rattle.std.specs.Prelude.{ℕ, ◌^◌, ◌+◌, ◌-◌, min, Bool, if◌then◌else◌, List, nat_eq}
use Rattle.std.specs.List.{list_any}

-- a counter after one more, which stands still at its last value
abbrev pub raised : ℕ → ℕ
raised n = min (n + 1) (2 ^ 64 - 1)

-- whether the call of this number is to fail; the first call has the number 1
abbrev pub is_planned : List ℕ → ℕ → Bool
is_planned failing call = list_any (λ number. nat_eq number call) failing

-- a count of faults after a call that fails or not
abbrev pub count_after : Bool → ℕ → ℕ
count_after fails faults = (if fails then raised faults else faults)
