use Rattle.std.proofs.Common.{◌≡◌, ◌++◌, map}
use Rattle.sp_fact.specs.View.{action_of, fact_of, facts_of}
use Rattle.sp_variant.specs.View.{list_by, way_by}
use Rattle.sp_variant.specs.Rows.{finished}
use Rattle.sp_variant.proofs.facts.push_with_conclusions.Given as goal

abbrev pub invariant-loop-way : goal.invariant-loop-way
invariant-loop-way l =
    map (way_by facts_of) l.ways.items
    ≡ map (way_by facts_of) l.fn.ways.items ++ finished (list_by fact_of l.premises) (list_by action_of l.row.value) (map (way_by (list_by fact_of)) l.yielded)
