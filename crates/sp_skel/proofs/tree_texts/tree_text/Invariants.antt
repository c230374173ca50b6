use Rattle.std.proofs.Common.{◌≡◌, ◌++◌, [], drop, string_bytes}
use Rattle.sp_search.specs.NodeView.{nodes_at}
use Rattle.sp_skel.specs.AroundView.{around_of}
use Rattle.sp_skel.specs.Nodes.{all_written, NodesHavePlaces}
use Rattle.sp_skel.proofs.tree_texts.tree_text.Given as goal

abbrev pub invariant-loop-node : goal.invariant-loop-node
invariant-loop-node l = record {
  text : string_bytes l.out ++ all_written (around_of l.around.items) (nodes_at (drop l.node-index l.node-items)) ≡ all_written [] (nodes_at l.tree.nodes.items);
  places : NodesHavePlaces (nodes_at (drop l.node-index l.node-items)) → NodesHavePlaces (nodes_at l.tree.nodes.items);
}
