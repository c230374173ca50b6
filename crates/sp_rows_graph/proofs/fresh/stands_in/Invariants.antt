use Rattle.std.proofs.Common.{◌≡◌, map, drop}
use Rattle.sp_term.specs.View.{view}
use Rattle.sp_fact.specs.View.{fact_of}
use Rattle.sp_spec_graph.specs.Fresh as rows
use Rattle.sp_rows_graph.proofs.fresh.stands_in.Given as goal

abbrev pub invariant-loop-position : goal.invariant-loop-position
invariant-loop-position l =
    rows.stands_in (view l.term) (rows.fresh_terms (map fact_of (drop l.start l.premises.items)))
    ≡ rows.stands_in (view l.term) (rows.fresh_terms (map fact_of (drop l.position l.premises.items)))
