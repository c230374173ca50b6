use Rattle.std.proofs.Common.{◌≡◌, ◌++◌, map, drop}
use Rattle.sp_term.specs.View.{view}
use Rattle.sp_system.specs.SystemView.{event_of, system_of}
use Rattle.sp_spec_know.specs.FreshFirst as rows
use Rattle.sp_rows_graph.proofs.fresh_first.missing_pairs.Given as goal

abbrev pub invariant-loop-event : goal.invariant-loop-event
invariant-loop-event l =
    l.made.items ++ rows.missing_pairs l.system.order l.time (view l.term) (map event_of (drop l.event-index l.event-items))
    ≡ rows.missing_pairs l.system.order l.time (view l.term) (system_of l.system).events
