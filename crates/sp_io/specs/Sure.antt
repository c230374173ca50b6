-- What a library and a sink tell that never fail.
use Rattle.std.specs.Prelude.{ℕ, List, Option, None}

-- the names fetched aren't told
abbrev pub untold_names : Option (List (List ℕ))
untold_names = None

-- the bytes written aren't told
abbrev pub untold_bytes : Option (List ℕ)
untold_bytes = None

abbrev pub no_faults : ℕ
no_faults = 0
