-- One turn of simplification.
use Rattle.std.specs.Prelude.{Bool, true, false, Option, None, Some}
use Rattle.sp_spec_system.specs.System.{System}
use Rattle.sp_spec_system.specs.Rules.{Rules}
use Rattle.sp_spec_proof.specs.Rows.{Row, is_contradictory, by_rows, rows}
use Rattle.sp_step.specs.Kept.{keeps_terms}

abbrev pub unless : Bool → Option System → Option System
unless true o = None
unless false o = o

-- the next system, if no contradiction is seen and some row applies
abbrev pub turned : Rules → System → Option System
turned rules s = unless (is_contradictory rules s) (by_rows rules rows s)

-- a move was done that keeps terms
abbrev pub some_keeps_terms : Option Row → Bool
some_keeps_terms None = false
some_keeps_terms (Some row) = keeps_terms row
