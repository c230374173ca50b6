-- Lines that are told one after the other.
use Rattle.std.specs.Prelude.{ℕ, List, map}
use Rattle.sp_spec.specs.Constants.{once_after}
use Rattle.sp_warn.specs.Warning.{Warning, line}

-- behind these lines those of the warnings, each line once
abbrev pub lines_after : List (List ℕ) → List Warning → List (List ℕ)
lines_after lines warnings = once_after lines (map line warnings)
