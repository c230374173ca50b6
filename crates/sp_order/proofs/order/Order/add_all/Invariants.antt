use Rattle.std.proofs.Common.{◌≡◌, ◌++◌, drop}
use Rattle.sp_order.proofs.order.Order.add_all.Given as goal

abbrev pub invariant-loop-pair : goal.invariant-loop-pair
invariant-loop-pair l = l.self ++ drop l.pair-index l.pairs ≡ l.initial.self ++ l.pairs
