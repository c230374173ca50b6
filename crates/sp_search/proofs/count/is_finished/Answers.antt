use Rattle.std.proofs.Common.{◌∙◌, sym, true, false}
use Rattle.sp_search.specs.NodeView.{nodes_at}
use Rattle.sp_search.specs.View.{tree_of}
use Rattle.sp_search.proofs.Finished.{finished_tells}
use Rattle.sp_search.proofs.InOrder.{left_at, left_nowhere}
use Rattle.sp_search.proofs.Told.{finished_told}
use Rattle.sp_search.proofs.count.is_finished.Goals as goal

pub returns-then-not-leaves_none : goal.returns-then-not-leaves_none
returns-then-not-leaves_none c =
    let tree = c.args.tree.now in
    let here = left_at c.loop-node.node-index c.deref-node-items.result.now c.node-item.result c.loop-node-test.true c.node-item.is (sym c.leaves_none.ensures ∙ c.if-not-leaves_none.true) in
    finished_tells false (tree_of tree) (sym (finished_told (nodes_at tree.nodes.items) tree.is_one ∙ sym c.loop-node.invariant ∙ here))

pub returns : goal.returns
returns c =
    let tree = c.args.tree.now in
    let nowhere = left_nowhere c.loop-node.node-index c.deref-node-items.result.now c.loop-node-test.false in
    finished_tells true (tree_of tree) (sym (finished_told (nodes_at tree.nodes.items) tree.is_one ∙ sym c.loop-node.invariant ∙ nowhere))
