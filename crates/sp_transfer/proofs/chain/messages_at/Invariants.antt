use Rattle.std.proofs.Common.{◌≡◌, ◌++◌, drop, map}
use Rattle.sp_fact.specs.GroundView.{ground_of}
use Rattle.sp_law_log_execution.specs.Executed as spec
use Rattle.sp_transfer.proofs.chain.messages_at.Given as goal

abbrev pub invariant-loop-place : goal.invariant-loop-place
invariant-loop-place l =
    map ground_of l.found.items ++ spec.messages_at (map ground_of l.learnt.items) (drop l.place-index l.place-items)
    ≡ spec.messages_at (map ground_of l.learnt.items) l.places.items
