use Rattle.std.proofs.Common.{◌≡◌, ◌||◌, drop}
use Rattle.sp_search.specs.InBlocks.{ends}
use Rattle.sp_search.specs.NodeView.{nodes_at}
use Rattle.sp_search.proofs.parts.ends.Given as goal

abbrev pub invariant-loop-node : goal.invariant-loop-node
invariant-loop-node l = (l.ended || ends (nodes_at (drop l.node-index l.node-items))) ≡ ends (nodes_at l.nodes.items)
