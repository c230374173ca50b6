use Rattle.std.proofs.Common.{◌≡◌}
use Rattle.sp_search.specs.BlockView.{all_of}
use Rattle.sp_search.specs.NodeView.{nodes_at}
use Rattle.sp_search.proofs.parts.all_nodes.Given as goal

abbrev pub invariant-loop-block : goal.invariant-loop-block
invariant-loop-block l = nodes_at l.nodes.items ≡ all_of l.yielded
