use Rattle.std.proofs.Common.{◌≡◌, drop}
use Rattle.sp_search.specs.NodeView.{nodes_at}
use Rattle.sp_search.proofs.Told.{first_log_of}
use Rattle.sp_search.proofs.tree.Tree.found_log.Given as goal

abbrev pub invariant-loop-node : goal.invariant-loop-node
invariant-loop-node l = first_log_of (nodes_at (drop l.node-index l.node-items)) ≡ first_log_of (nodes_at l.self.nodes.items)
