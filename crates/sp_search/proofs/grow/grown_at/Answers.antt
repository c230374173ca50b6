use Rattle.std.proofs.Common.{◌≡◌, ◌∙◌, map}
use Rattle.std.proofs.lemmas.Iterator.{items_from_drains}
use Rattle.std.proofs.lemmas.Iterator.Adapters.{YieldsList-from_vec}
use Rattle.sp_system.specs.SystemView.{system_of}
use Rattle.sp_step.specs.View.{context_of}
use Rattle.sp_search.specs.declared.node.Node.{Node}
use Rattle.sp_step.specs.Choosing.{ranked_of}
use Rattle.sp_search.specs.NodeView.{nodes_at}
use Rattle.sp_search.proofs.InOrder.{spliced}
use Rattle.sp_search.proofs.Replaced.{none_replaced}
use Rattle.sp_search.proofs.grow.grown_at.Goals as goal

pub returns-in_default : goal.returns-in_default
returns-in_default c = none_replaced (context_of c.args.context.now) c.args.place (nodes_at c.args.nodes.items) c.in_default.ensures

pub returns : goal.returns
returns c =
    let all = c.args.nodes.items in
    let leaf = c.in-Some.leaf.now in
    let made = c.in_ok-made.made in
    let h = c.in_ok-_replaced.ensures.items in
    let found = rw c.in-Some-choice.is at c.in-Some.ensures in
    let came : map (λ (n : Node). n) h.1 ≡ made.items = items_from_drains h.1 (h.3.1.0, h.3.1.1, λ _. (h.3.0, h.3.1.2)) (YieldsList-from_vec {s = h.0} made.items h.2.0 (h.2.1 ∙ made.ok.0)) in
    spliced (context_of c.args.context.now) c.args.place all c.splice.new.self.items made.items h.1 (system_of leaf.system) (ranked_of c.in-Some-choice.ranked) leaf.depth h.4 came c.in_ok-made.ensures found
