use Rattle.std.proofs.Common.{◌≡◌, ◌++◌, map, drop}
use Rattle.sp_spec.specs.Change.{time_replaced}
use Rattle.sp_spec_system.specs.Equating.{order_changed}
use Rattle.sp_order.proofs.closure.with_changed.Given as goal

abbrev pub invariant-loop-pair : goal.invariant-loop-pair
invariant-loop-pair l =
    l.made.pairs ++ map (order_changed (time_replaced l.small l.large)) (drop l.pair-index l.pairs)
    ≡ map (order_changed (time_replaced l.small l.large)) l.pairs
