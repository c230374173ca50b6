use Rattle.std.proofs.Common.{◌≡◌, drop}
use Rattle.sp_spec_system.specs.Order.{begins_at}
use Rattle.sp_system.proofs.order.begins_at.Given as goal

abbrev pub invariant-loop-pair : goal.invariant-loop-pair
invariant-loop-pair l = begins_at l.time (drop l.pair-index l.pairs) ≡ begins_at l.time l.pairs
