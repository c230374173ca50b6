use Rattle.std.proofs.Common.{◌≡◌, ◌++◌, map}
use Rattle.sp_term.specs.View.{view}
use Rattle.sp_variant.specs.View.{list_by, way_by}
use Rattle.sp_variant.specs.Rows.{with_one_more}
use Rattle.sp_variant.proofs.narrowing.push_longer.Given as goal

abbrev pub invariant-loop-way : goal.invariant-loop-way
invariant-loop-way l =
    map (way_by (list_by view)) l.rows.items ≡ map (way_by (list_by view)) l.fn.rows.items ++ with_one_more (map view l.before.items) (map (way_by view) l.yielded)
