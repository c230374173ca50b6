use Rattle.std.proofs.Common.{◌≡◌, map, drop}
use Rattle.sp_term.specs.View.{view}
use Rattle.sp_unify.specs.View.{pair_view}
use Rattle.sp_spec_formula.specs.Sides.{are_apart}
use Rattle.sp_moves_decide.proofs.same.are_apart.Given as goal

abbrev pub invariant-loop-pair : goal.invariant-loop-pair
invariant-loop-pair l =
    are_apart (map pair_view l.pairs.items) (view l.left) (view l.right)
    ≡ are_apart (map pair_view (drop l.pair-index l.pair-items)) (view l.left) (view l.right)
