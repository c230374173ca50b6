-- Elementary moves that put no terms for variables, and add to the events only terms that stand inside of theirs: so no equation could be used in an event
-- where none could be before.
use Rattle.std.specs.Prelude.{Bool, true, false}
use Rattle.sp_spec_proof.specs.Rows.{Row, row_equate, row_last, row_learn_once, row_linear_once, row_fresh_once}

abbrev pub keeps_terms : Row → Bool
keeps_terms row_equate = false
keeps_terms row_last = false
keeps_terms row_learn_once = false
keeps_terms row_linear_once = false
keeps_terms row_fresh_once = false
keeps_terms row = true
