use Rattle.std.proofs.Common.{map}
use Rattle.sp_system.specs.SystemView.{event_of}
use Rattle.sp_spec_formula.specs.ActionStands as rows
use Rattle.sp_rows_formula.proofs.Searches.{IsLeft}
use Rattle.sp_rows_formula.proofs.action_stands.position_of_standing.Given as goal

abbrev pub invariant-loop-position : goal.invariant-loop-position
invariant-loop-position l = IsLeft (rows.standing_of (map event_of l.system.events.items)) l.system.formulas.items l.position
