use Rattle.std.proofs.Common.{◌∙◌, ap, Some, inl, inr}
use Rattle.sp_search.specs.declared.node.OpenLeaf.{OpenLeaf}
use Rattle.sp_search.specs.NodeView.{leaf_of}
use Rattle.sp_search.proofs.InOrder.{leaf_found, end_found, move_found}
use Rattle.sp_search.proofs.grow.leaf_at.Goals as goal

pub returns-in-Open : goal.returns-in-Open
returns-in-Open c =
    let all = c.args.nodes.now.items in
    let lookup = rw c.deref.ensures.value at c.in_ok-leaf.ensures.lookup in
    ap (λ (leaf : OpenLeaf). Some (leaf_of leaf)) c.deref-in-Open.ensures ∙ leaf_found c.args.place all c.in_ok-leaf.field-0.now c.in-Open.leaf lookup.3.0 lookup.1 c.in-Open.is

pub returns-in-Ended : goal.returns-in-Ended
returns-in-Ended c =
    let all = c.args.nodes.now.items in
    let n = c.in_ok-leaf.field-0.now in
    let lookup = rw c.deref.ensures.value at c.in_ok-leaf.ensures.lookup in
    elim c.in-Ended.is [ inl e ↦ end_found c.args.place all n e.0 lookup.3.0 lookup.1 e.1 | inr e ↦ move_found c.args.place all n e.0 e.1 lookup.3.0 lookup.1 e.2 ]
