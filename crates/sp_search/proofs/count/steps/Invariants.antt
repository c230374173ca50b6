use Rattle.std.proofs.Common.{◌≡◌, ◌+◌, ◌-◌, ◌^◌, ◌≤◌, min, drop}
use Rattle.sp_search.specs.NodeView.{nodes_at}
use Rattle.sp_search.proofs.Told.{steps_of}
use Rattle.sp_search.proofs.count.steps.Given as goal

abbrev pub invariant-loop-node : goal.invariant-loop-node
invariant-loop-node l =
    (min (l.total + steps_of (nodes_at (drop l.node-index l.node-items))) (2 ^ 64 - 1) ≡ min (steps_of (nodes_at l.tree.nodes.items)) (2 ^ 64 - 1))
    × (l.total ≤ 2 ^ 64 - 1)
