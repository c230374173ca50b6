use Rattle.std.proofs.Common.{◌≡◌, map, drop}
use Rattle.sp_fact.specs.View.{fact_of}
use Rattle.sp_spec_graph.specs.SourceTwice as rows
use Rattle.sp_spec_graph.specs.Fresh as fresh
use Rattle.sp_rows_graph.proofs.source_twice.repeats.Given as goal

abbrev pub invariant-loop-position : goal.invariant-loop-position
invariant-loop-position l =
    rows.repeats (fresh.fresh_terms (map fact_of l.premises.items)) ≡ rows.repeats (fresh.fresh_terms (map fact_of (drop l.position l.premises.items)))
