use Rattle.std.proofs.Common.{◌≡◌, ◌++◌, drop, map}
use Rattle.sp_fact.specs.GroundView.{ground_of}
use Rattle.sp_transfer.proofs.raising.with_copies.Given as goal

abbrev pub invariant-loop-message : goal.invariant-loop-message
invariant-loop-message l =
    map ground_of l.made.items ++ map ground_of (drop l.message-index l.messages) ≡ map ground_of l.fn.made.items ++ map ground_of l.messages
