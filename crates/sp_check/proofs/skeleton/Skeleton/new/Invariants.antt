use Rattle.std.proofs.Common.{◌↔◌, drop}
use Rattle.sp_spec_nodes.specs.Preorder.{AreTrees}
use Rattle.sp_check.proofs.Kept.{cases_in}
use Rattle.sp_check.proofs.skeleton.Skeleton.new.Given as goal

abbrev pub invariant-loop-node : goal.invariant-loop-node
invariant-loop-node l = AreTrees cases_in 1 l.fn.nodes.items ↔ AreTrees cases_in l.awaited (drop l.node-index l.node-items)
