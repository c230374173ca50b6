use Rattle.std.proofs.Common.{◌≡◌, take, map}
use Rattle.sp_spec_system.specs.Equating.{order_changed}
use Rattle.sp_spec.specs.Change.{time_replaced}
use Rattle.sp_system.proofs.time.changed_order.Given as goal

abbrev pub invariant-loop-pair : goal.invariant-loop-pair
invariant-loop-pair l = l.made.items ≡ map (order_changed (time_replaced l.small l.large)) (take l.pair-index l.pair-items)
