use Rattle.std.proofs.Common.{◌≡◌, ◌+◌, ◌-◌, ◌^◌, ◌≤◌, min, drop}
use Rattle.sp_check.specs.Skeleton as spec
use Rattle.sp_check.specs.View.{nodes_of, skeleton_of}
use Rattle.sp_check.proofs.Told.{steps_among}
use Rattle.sp_check.proofs.counts.steps.Given as goal

abbrev pub invariant-loop-node : goal.invariant-loop-node
invariant-loop-node l =
    (min (spec.steps (skeleton_of l.skeleton)) (2 ^ 64 - 1) ≡ min (l.total + steps_among (nodes_of (drop l.node-index l.node-items))) (2 ^ 64 - 1))
    × (l.total ≤ 2 ^ 64 - 1)
