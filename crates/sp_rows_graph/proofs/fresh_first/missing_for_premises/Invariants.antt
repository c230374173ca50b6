use Rattle.std.proofs.Common.{◌≡◌, map, drop}
use Rattle.sp_fact.specs.View.{fact_of}
use Rattle.sp_system.specs.SystemView.{system_of}
use Rattle.sp_spec_system.specs.Picked.{first_some}
use Rattle.sp_spec_graph.specs.Fresh.{fresh_terms}
use Rattle.sp_rows_graph.specs.FreshView.{missing_with}
use Rattle.sp_rows_graph.proofs.fresh_first.missing_for_premises.Given as goal

abbrev pub invariant-loop-premise : goal.invariant-loop-premise
invariant-loop-premise l =
    let pick = missing_with (system_of l.system) l.time in
    first_some pick (fresh_terms (map fact_of l.premises.items)) ≡ first_some pick (fresh_terms (map fact_of (drop l.premise-index l.premise-items)))
