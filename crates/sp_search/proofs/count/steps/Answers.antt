use Rattle.std.proofs.Common.{arith}
use Rattle.sp_search.specs.NodeView.{nodes_at}
use Rattle.sp_search.proofs.InOrder.{no_steps}
use Rattle.sp_search.proofs.Told.{steps_told}
use Rattle.sp_search.proofs.count.steps.Goals as goal

pub returns : goal.returns
returns c =
    let tree = c.args.tree.now in
    omega (arith, steps_told (nodes_at tree.nodes.items) tree.is_one, no_steps c.loop-node.node-index c.deref-node-items.result.now c.loop-node-test.false, c.loop-node.invariant)
