use Rattle.std.proofs.Common.{◌∙◌, sym}
use Rattle.sp_term.specs.View.{view_by}
use Rattle.sp_spec.proofs.Same.{same_by_decides}
use Rattle.sp_term.proofs.term.same.Goals as goal

pub returns-clause-tells : goal.returns-clause-tells
returns-clause-tells g c =
    let leaf_of = g.L.Leaf.leaf_of in
    let decides = same_by_decides g.L.Leaf.test g.met.L.Leaf.decides (view_by leaf_of c.args.a.now) (view_by leaf_of c.args.b.now) in
    (λ h. decides.0 (sym c.same_tree.ensures ∙ h), λ e. c.same_tree.ensures ∙ decides.1 e)
