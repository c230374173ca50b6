use Rattle.std.proofs.Common.{◌≡◌, map, drop}
use Rattle.sp_system.specs.SystemView.{event_of}
use Rattle.sp_spec_formula.specs.Last as rows
use Rattle.sp_rows_formula.proofs.last.all_by.Given as goal

abbrev pub invariant-loop-event : goal.invariant-loop-event
invariant-loop-event l = rows.all_by l.order l.time (map event_of l.events.items) ≡ rows.all_by l.order l.time (map event_of (drop l.event-index l.event-items))
