use Rattle.std.proofs.Common.{map, length, ◌≤◌, ◌-◌}
use Rattle.sp_spec_text.specs.Signs as s
use Rattle.sp_spec_text.specs.Token.{sign}
use Rattle.sp_read_parts.specs.Parts.{IsVariable}
use Rattle.sp_read_parts.specs.Views as view
use Rattle.sp_read_parts.specs.Views.{seen_from}
use Rattle.sp_read_parts.proofs.Until.{Until}
use Rattle.sp_read_parts.proofs.binders.binders.Given as goal

abbrev pub invariant-loop-next : goal.invariant-loop-next
invariant-loop-next l = record { reads : Until IsVariable (sign s.Dot) (seen_from l.tokens l.at) (map view.variable l.found.items) (seen_from l.tokens l.rest); further : l.at ≤ l.rest }

abbrev pub decreases-loop-next : goal.decreases-loop-next
decreases-loop-next l = length l.tokens - l.rest
