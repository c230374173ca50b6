use Rattle.std.proofs.Common.{◌≡◌, map, drop}
use Rattle.sp_fact.specs.GroundView.{equation_of}
use Rattle.sp_system.specs.SystemView.{event_of}
use Rattle.sp_spec_graph.specs.ReducibleEvent as rows
use Rattle.sp_rows_graph.proofs.reducible_event.has_reducible.Given as goal

abbrev pub invariant-loop-event : goal.invariant-loop-event
invariant-loop-event l =
    rows.has_reducible (map equation_of l.equations.items) (map event_of l.events.items)
    ≡ rows.has_reducible (map equation_of l.equations.items) (map event_of (drop l.event-index l.event-items))
