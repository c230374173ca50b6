use Rattle.std.proofs.Common.{◌+◌, ◌-◌, ◌*◌, map, length, ◌≤◌}
use Rattle.sp_spec_text.specs.Signs as s
use Rattle.sp_read_parts.specs.Parts.{IsTerm}
use Rattle.sp_read_parts.specs.Views as view
use Rattle.sp_read_parts.specs.Views.{seen_from}
use Rattle.sp_read_parts.proofs.Loops.{Going}
use Rattle.sp_read_parts.proofs.terms.+terms.Given as goal

abbrev pub decreases-terms : goal.decreases-terms
decreases-terms l = 8 * (128 - l.nesting) + 3

abbrev pub decreases-tuple : goal.decreases-tuple
decreases-tuple l = 8 * (128 - l.nesting) + 3

abbrev pub decreases-term : goal.decreases-term
decreases-term l = 8 * (128 - l.nesting) + 2

abbrev pub decreases-bracketed : goal.decreases-bracketed
decreases-bracketed l = 8 * (128 - l.nesting)

abbrev pub decreases-applied : goal.decreases-applied
decreases-applied l = 8 * (128 - l.nesting)

abbrev pub decreases-braced : goal.decreases-braced
decreases-braced l = 8 * (128 - l.nesting)

abbrev pub invariant-terms-loop-found : goal.invariant-terms-loop-found
invariant-terms-loop-found l = record { reads : Going (IsTerm l.nesting) s.Comma s.Close (seen_from l.tokens l.at) (map view.term l.found.items) (seen_from l.tokens l.rest); further : l.at ≤ l.rest }

abbrev pub decreases-terms-loop-found : goal.decreases-terms-loop-found
decreases-terms-loop-found l = length l.tokens - l.rest
