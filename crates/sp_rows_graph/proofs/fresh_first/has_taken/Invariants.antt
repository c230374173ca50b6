use Rattle.std.proofs.Common.{◌≡◌, map, drop}
use Rattle.sp_term.specs.View.{view}
use Rattle.sp_fact.specs.View.{fact_of}
use Rattle.sp_spec_know.specs.FreshFirst as rows
use Rattle.sp_rows_graph.proofs.fresh_first.has_taken.Given as goal

abbrev pub invariant-loop-premise : goal.invariant-loop-premise
invariant-loop-premise l = rows.has_taken (view l.term) (map fact_of l.premises.items) ≡ rows.has_taken (view l.term) (map fact_of (drop l.premise-index l.premise-items))
