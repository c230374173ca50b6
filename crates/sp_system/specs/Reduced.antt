-- What an elementary move made of a system in memory.
use Rattle.std.specs.Prelude.{◌≡◌, Bool, true, false, Option, Some, None}
use Rattle.sp_spec_system.specs.System.{System}

-- the system in memory is what a row made of it; where the row gives nothing it is as it was
abbrev pub Reduced : Bool → System → System → Option System → Type 0
Reduced true old new o = o ≡ Some new
Reduced false old new o = (o ≡ None) × (new ≡ old)
