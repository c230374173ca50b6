use Rattle.std.proofs.Common.{◌≡◌, map, drop}
use Rattle.sp_term.specs.View.{view}
use Rattle.sp_system.specs.SystemView.{event_of}
use Rattle.sp_spec_know.specs.LearntEarly as rows
use Rattle.sp_rows_graph.proofs.learnt_early.is_learnt_before.Given as goal

abbrev pub invariant-loop-event : goal.invariant-loop-event
invariant-loop-event l =
    rows.is_learnt_before l.order l.time (view l.message) (map event_of l.events.items)
    ≡ rows.is_learnt_before l.order l.time (view l.message) (map event_of (drop l.event-index l.event-items))
