use Rattle.std.proofs.Common.{◌≡◌, map, drop}
use Rattle.sp_system.specs.SystemView.{event_of, system_of}
use Rattle.sp_spec_know.specs.LearntEarly as rows
use Rattle.sp_rows_graph.proofs.learnt_early.has_early.Given as goal

abbrev pub invariant-loop-event : goal.invariant-loop-event
invariant-loop-event l =
    rows.has_early (system_of l.system) ≡ rows.have_early (system_of l.system) (map event_of (drop l.event-index l.event-items))
