use Rattle.std.proofs.Common.{◌≡◌, take}
use Rattle.sp_fact.specs.GroundView.{ground_of}
use Rattle.sp_law_adversary.specs.Learning as spec
use Rattle.sp_transfer.specs.View.{log_in}
use Rattle.sp_transfer.proofs.learning.way_learnt.Given as goal

abbrev pub invariant-loop-place : goal.invariant-loop-place
invariant-loop-place l =
    spec.way_learnt (log_in l.entries.items) (ground_of l.message) ≡ spec.way_learnt (log_in (take l.place l.entries.items)) (ground_of l.message)
