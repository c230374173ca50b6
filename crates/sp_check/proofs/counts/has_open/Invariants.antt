use Rattle.std.proofs.Common.{◌≡◌, drop}
use Rattle.sp_check.specs.Skeleton as spec
use Rattle.sp_check.specs.View.{nodes_of, skeleton_of}
use Rattle.sp_check.proofs.Told.{open_among}
use Rattle.sp_check.proofs.counts.has_open.Given as goal

abbrev pub invariant-loop-node : goal.invariant-loop-node
invariant-loop-node l = spec.has_open (skeleton_of l.skeleton) ≡ open_among (nodes_of (drop l.node-index l.node-items))
