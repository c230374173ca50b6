-- What a library and a sink tell of themselves, and what their calls may do to it.
use Rattle.std.specs.Prelude.{◌≡◌, ℕ, ◌≤◌, ◌<◌, ◌^◌, ◌-◌, ◌⊎◌, Option, Some, None, List, ◌++◌, Result, IsErrOf, length, take}
use Rattle.sp_io.specs.declared.FetchFail.{FetchFail}
use Rattle.sp_io.specs.declared.FetchFail.TheVariants.{Failed, NoMemory}

-- a count of faults rose, or stands at the last value that a counter has
abbrev pub Rose : ℕ → ℕ → Type 0
Rose before now = (before < now) ⊎ (now ≡ 2 ^ 64 - 1)

-- a list that is told, with more at its end; what is not told stays so
abbrev pub extended : {A : Type 0} → Option (List A) → List A → Option (List A)
extended None more = None
extended (Some told) more = Some (told ++ more)

-- some first bytes of these were added to what is told
abbrev pub IsExtendedByPrefix : Option (List ℕ) → Option (List ℕ) → List ℕ → Type 0
IsExtendedByPrefix before now bytes = (n : ℕ) × (n ≤ length bytes) × (now ≡ extended before (take n bytes))

-- a fetch that a fault or want of memory ended
abbrev pub IsCutShort : {V : Type 0} → Result V FetchFail → Type 0
IsCutShort answer = IsErrOf answer Failed ⊎ IsErrOf answer NoMemory
