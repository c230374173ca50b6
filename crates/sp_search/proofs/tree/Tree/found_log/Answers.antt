use Rattle.std.proofs.Common.{◌∙◌, sym, ap, Some}
use Rattle.sp_learn.specs.declared.log.Log.{Log}
use Rattle.sp_learn.specs.View.{log_of}
use Rattle.sp_search.specs.NodeView.{nodes_at}
use Rattle.sp_search.proofs.InOrder.{log_here, log_nowhere}
use Rattle.sp_search.proofs.Told.{log_told}
use Rattle.sp_search.proofs.tree.Tree.found_log.Goals as goal

pub returns-in-Ended : goal.returns-in-Ended
returns-in-Ended c =
    let tree = c.args.self.now in
    let here = log_here c.loop-node.node-index c.deref-node-items.result.now c.node-item.result c.in-Ended.log c.loop-node-test.true c.node-item.is c.in-Ended.is in
    sym (log_told (nodes_at tree.nodes.items) tree.is_one ∙ sym c.loop-node.invariant ∙ here ∙ ap (λ (log : Log). Some (log_of log)) (sym c.deref.ensures))

pub returns : goal.returns
returns c =
    let tree = c.args.self.now in
    sym (log_told (nodes_at tree.nodes.items) tree.is_one ∙ sym c.loop-node.invariant ∙ log_nowhere c.loop-node.node-index c.deref-node-items.result.now c.loop-node-test.false)
