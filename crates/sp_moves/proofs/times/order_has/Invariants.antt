use Rattle.std.proofs.Common.{◌≡◌, drop}
use Rattle.sp_moves.specs.Times.{order_has}
use Rattle.sp_moves.proofs.times.order_has.Given as goal

abbrev pub invariant-loop-pair : goal.invariant-loop-pair
invariant-loop-pair l = order_has l.time l.order ≡ order_has l.time (drop l.pair-index l.order)
