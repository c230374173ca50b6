use Rattle.std.proofs.Common.{length}
use Rattle.sp_spec_nodes.specs.Preorder.{AreTrees}
use Rattle.sp_search.specs.Kinds.{case_count}
use Rattle.sp_search.specs.NodeView.{nodes_at}
use Rattle.sp_test_search.proofs.growth.over_all.Given as goal

abbrev pub invariant-loop-name : goal.invariant-loop-name
invariant-loop-name l = AreTrees case_count (length l.names.items) (nodes_at l.below.items)
