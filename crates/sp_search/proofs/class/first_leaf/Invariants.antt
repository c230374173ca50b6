use Rattle.std.proofs.Common.{◌≡◌, drop}
use Rattle.sp_search.specs.NodeView.{nodes_at}
use Rattle.sp_search.specs.Turning.{sooner, first_least}
use Rattle.sp_search.proofs.class.first_leaf.Given as goal

abbrev pub invariant-loop-place : goal.invariant-loop-place
invariant-loop-place l = sooner l.found (first_least l.place (nodes_at (drop l.place l.node-items))) ≡ first_least 0 (nodes_at l.nodes.items)
