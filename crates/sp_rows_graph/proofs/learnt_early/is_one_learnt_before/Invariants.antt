use Rattle.std.proofs.Common.{◌≡◌, map, drop}
use Rattle.sp_term.specs.View.{view}
use Rattle.sp_system.specs.SystemView.{system_of}
use Rattle.sp_spec_know.specs.LearntEarly as rows
use Rattle.sp_rows_graph.proofs.learnt_early.is_one_learnt_before.Given as goal

abbrev pub invariant-loop-message : goal.invariant-loop-message
invariant-loop-message l =
    rows.is_one_learnt_before (system_of l.system) l.time (map view l.messages.items)
    ≡ rows.is_one_learnt_before (system_of l.system) l.time (map view (drop l.message-index l.message-items))
