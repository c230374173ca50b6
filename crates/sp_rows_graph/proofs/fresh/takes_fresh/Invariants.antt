use Rattle.std.proofs.Common.{◌≡◌, map, drop}
use Rattle.sp_fact.specs.View.{fact_of}
use Rattle.sp_rows_graph.specs.FreshView.{takes_fr}
use Rattle.sp_rows_graph.proofs.fresh.takes_fresh.Given as goal

abbrev pub invariant-loop-premise : goal.invariant-loop-premise
invariant-loop-premise l = takes_fr (map fact_of l.premises.items) ≡ takes_fr (map fact_of (drop l.premise-index l.premise-items))
