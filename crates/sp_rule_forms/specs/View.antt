-- What is done with a text whose rules' forms are listed.
use Rattle.std.specs.Prelude.{ℕ, List}
use Rattle.std.specs.Global.{Vec}
use Rattle.sp_rule_forms.specs.Variants.{IsListed}

-- its rules are written
abbrev pub IsWritten : List ℕ → Vec ℕ → Type 0
IsWritten text written = IsListed text written.items
