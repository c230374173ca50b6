use Rattle.std.proofs.Common.{◌≡◌, map, drop}
use Rattle.sp_system.specs.SystemView.{event_of}
use Rattle.sp_spec_graph.specs.SourceTwice as rows
use Rattle.sp_rows_graph.proofs.source_twice.takes_fr_twice.Given as goal

abbrev pub invariant-loop-event : goal.invariant-loop-event
invariant-loop-event l = rows.takes_fr_twice (map event_of l.events.items) ≡ rows.takes_fr_twice (map event_of (drop l.event-index l.event-items))
