use Rattle.std.proofs.Common.{◌≡◌, map, take}
use Rattle.std.specs.List.{flat_map}
use Rattle.sp_fact.specs.View.{fact_of, facts_of}
use Rattle.sp_fact.specs.GroundView.{equation_of}
use Rattle.sp_variant.specs.View.{list_by, way_by}
use Rattle.sp_variant.specs.Rows.{with_actions}
use Rattle.sp_variant.proofs.facts.narrow_facts.Given as goal

abbrev pub invariant-loop-premises : goal.invariant-loop-premises
invariant-loop-premises l =
    map (way_by facts_of) l.ways.items
    ≡ flat_map (with_actions (map equation_of l.equations.items) (facts_of l.facts)) (map (way_by (list_by fact_of)) (take l.premises-index l.premises-items))
