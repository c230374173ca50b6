use Rattle.std.proofs.Common.{◌≡◌, map, take}
use Rattle.sp_fact.specs.GroundView.{equation_of}
use Rattle.sp_variant.specs.View.{list_by, way_by}
use Rattle.sp_variant.specs.Rows.{longer, narrow_arguments}
use Rattle.sp_variant.proofs.facts.longer.Given as goal

abbrev pub invariant-loop-row : goal.invariant-loop-row
invariant-loop-row g l =
    let t = g.T.HasArguments in
    map (way_by (list_by t.kind_of)) l.made.items
    ≡ longer (narrow_arguments t.args_of t.with_args (map equation_of l.equations.items) (t.kind_of l.one)) (map (way_by (list_by t.kind_of)) (take l.row-index l.row-items))
