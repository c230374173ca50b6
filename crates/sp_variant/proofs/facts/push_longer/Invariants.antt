use Rattle.std.proofs.Common.{◌≡◌, ◌++◌, map}
use Rattle.sp_variant.specs.View.{list_by, way_by}
use Rattle.sp_variant.specs.Rows.{with_one_more}
use Rattle.sp_variant.proofs.facts.push_longer.Given as goal

abbrev pub invariant-loop-way : goal.invariant-loop-way
invariant-loop-way g l =
    let kind_of = g.T.HasArguments.kind_of in
    map (way_by (list_by kind_of)) l.rows.items ≡ map (way_by (list_by kind_of)) l.fn.rows.items ++ with_one_more (list_by kind_of l.before) (map (way_by kind_of) l.yielded)
