use Rattle.std.proofs.Common.{◌≡◌, map, drop}
use Rattle.sp_fact.specs.View.{action_of}
use Rattle.sp_system.specs.SystemView.{event_of}
use Rattle.sp_spec_formula.specs.ActionStands as rows
use Rattle.sp_rows_formula.proofs.action_stands.has_action.Given as goal

abbrev pub invariant-loop-event : goal.invariant-loop-event
invariant-loop-event l = rows.has_action l.time (action_of l.action) (map event_of l.events.items) ≡ rows.has_action l.time (action_of l.action) (map event_of (drop l.event-index l.event-items))
