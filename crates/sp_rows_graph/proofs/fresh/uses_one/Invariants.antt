use Rattle.std.proofs.Common.{◌≡◌, map, drop}
use Rattle.sp_fact.specs.View.{fact_of}
use Rattle.sp_system.specs.SystemView.{event_of}
use Rattle.sp_spec_graph.specs.Fresh as rows
use Rattle.sp_rows_graph.proofs.fresh.uses_one.Given as goal

abbrev pub invariant-loop-premise : goal.invariant-loop-premise
invariant-loop-premise l =
    let others = rows.happening_fresh (event_of l.event).happening in
    rows.share_one (rows.fresh_terms (map fact_of l.premises.items)) others
    ≡ rows.share_one (rows.fresh_terms (map fact_of (drop l.premise-index l.premise-items))) others
