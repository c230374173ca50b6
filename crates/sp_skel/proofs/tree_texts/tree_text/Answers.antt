use Rattle.std.proofs.Common.{◌∙◌, [], string_bytes}
use Rattle.sp_search.specs.NodeView.{nodes_at}
use Rattle.sp_skel.specs.AroundView.{around_of}
use Rattle.sp_skel.specs.Nodes.{all_written}
use Rattle.sp_skel.proofs.InOrder.{all_done, places_done}
use Rattle.sp_skel.proofs.NamedPlaces.{tree_has}
use Rattle.sp_skel.proofs.Nodes.{all_is}
use Rattle.sp_skel.proofs.tree_texts.tree_text.Goals as goal

pub returns-clause-text : goal.returns-clause-text
returns-clause-text c =
    let tree = c.args.tree.now in
    let ns = nodes_at tree.nodes.items in
    all_done (string_bytes c.loop-node.out) (all_written [] ns) (around_of c.loop-node.around.items) c.loop-node.node-index c.deref-node-items.result.now c.loop-node-test.false c.loop-node.invariant.text
    ∙ all_is ns tree.is_one

pub returns-clause-places : goal.returns-clause-places
returns-clause-places c =
    let tree = c.args.tree.now in
    tree_has (nodes_at tree.nodes.items) tree.is_one (c.loop-node.invariant.places (places_done c.loop-node.node-index c.deref-node-items.result.now c.loop-node-test.false))
