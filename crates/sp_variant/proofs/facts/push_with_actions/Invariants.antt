use Rattle.std.proofs.Common.{◌≡◌, ◌++◌, map, take}
use Rattle.std.specs.List.{flat_map}
use Rattle.sp_fact.specs.View.{action_of, fact_of, facts_of}
use Rattle.sp_fact.specs.GroundView.{equation_of}
use Rattle.sp_variant.specs.View.{list_by, way_by}
use Rattle.sp_variant.specs.Rows.{with_conclusions}
use Rattle.sp_variant.proofs.facts.push_with_actions.Given as goal

abbrev pub invariant-loop-actions : goal.invariant-loop-actions
invariant-loop-actions l =
    map (way_by facts_of) l.ways.items
    ≡ map (way_by facts_of) l.fn.ways.items
    ++ flat_map (with_conclusions (map equation_of l.equations.items) (facts_of l.facts) (list_by fact_of l.row.value)) (map (way_by (list_by action_of)) (take l.actions-index l.actions-items))
