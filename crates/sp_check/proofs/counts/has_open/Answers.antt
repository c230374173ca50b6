use Rattle.std.proofs.Common.{List, sym, ap, ◌∙◌}
use Rattle.sp_check.specs.declared.skeleton.Node.{Node}
use Rattle.sp_check.specs.View.{nodes_of}
use Rattle.sp_check.proofs.Kept.{seen_one}
use Rattle.sp_check.proofs.Told.{open_among, open_told}
use Rattle.sp_check.proofs.counts.has_open.Goals as goal

pub loop-node-init : goal.loop-node-init
loop-node-init c =
    let k = c.args.skeleton.now in
    open_told (nodes_of k.nodes.items) (seen_one k.nodes.items k.is_one) ∙ ap (λ (ns : List Node). open_among (nodes_of ns)) (sym c.deref-node-items.ensures.value)
