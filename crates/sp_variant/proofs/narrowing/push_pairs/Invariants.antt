use Rattle.std.proofs.Common.{◌≡◌, ◌++◌, map, drop}
use Rattle.sp_unify.specs.View.{pair_view}
use Rattle.sp_variant.proofs.narrowing.push_pairs.Given as goal

abbrev pub invariant-loop-left : goal.invariant-loop-left
invariant-loop-left l =
    map pair_view l.pairs.items ++ map pair_view (drop l.left-index l.left-items) ≡ map pair_view l.fn.pairs.items ++ map pair_view l.others.items
