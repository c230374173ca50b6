use Rattle.std.proofs.Common.{◌≡◌, drop}
use Rattle.sp_search.specs.NodeView.{nodes_at}
use Rattle.sp_search.proofs.Told.{none_of}
use Rattle.sp_search.proofs.count.is_finished.Given as goal

abbrev pub invariant-loop-node : goal.invariant-loop-node
invariant-loop-node l = none_of (nodes_at (drop l.node-index l.node-items)) ≡ none_of (nodes_at l.tree.nodes.items)
