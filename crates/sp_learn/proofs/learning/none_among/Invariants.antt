use Rattle.std.proofs.Common.{◌≡◌, drop, map}
use Rattle.sp_fact.specs.GroundView.{ground_of}
use Rattle.sp_learn.specs.Learning as spec
use Rattle.sp_learn.proofs.learning.none_among.Given as goal

abbrev pub invariant-loop-message : goal.invariant-loop-message
invariant-loop-message l =
    spec.none_among (map ground_of l.messages.items) (map ground_of l.chain.items)
    ≡ spec.none_among (map ground_of l.messages.items) (map ground_of (drop l.message-index l.message-items))
