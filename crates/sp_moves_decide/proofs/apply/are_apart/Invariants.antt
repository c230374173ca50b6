use Rattle.std.proofs.Common.{◌≡◌, map, drop}
use Rattle.sp_unify.specs.View.{pair_view}
use Rattle.sp_moves.specs.View.{side_of}
use Rattle.sp_spec_formula.specs.Sides.{side_term, are_apart}
use Rattle.sp_moves_decide.proofs.apply.are_apart.Given as goal

abbrev pub invariant-loop-pair : goal.invariant-loop-pair
invariant-loop-pair l =
    are_apart (map pair_view l.pairs.items) (side_term (side_of l.one)) (side_term (side_of l.other))
    ≡ are_apart (map pair_view (drop l.pair-index l.pair-items)) (side_term (side_of l.one)) (side_term (side_of l.other))
