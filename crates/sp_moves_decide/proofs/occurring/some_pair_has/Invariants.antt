use Rattle.std.proofs.Common.{◌≡◌, drop, map}
use Rattle.std.specs.List.{list_any}
use Rattle.sp_unify.specs.View.{pair_view}
use Rattle.sp_moves_decide.specs.Sought.{pair_has}
use Rattle.sp_moves_decide.specs.SoughtView.{sought_of}
use Rattle.sp_moves_decide.proofs.occurring.some_pair_has.Given as goal

abbrev pub invariant-loop-pair : goal.invariant-loop-pair
invariant-loop-pair l =
    list_any (pair_has (sought_of l.sought)) (map pair_view l.pairs.items)
    ≡ list_any (pair_has (sought_of l.sought)) (map pair_view (drop l.pair-index l.pair-items))
