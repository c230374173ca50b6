use Rattle.std.proofs.Common.{◌∷◌, [], ◌∙◌, sym, ap, take}
use Rattle.sp_spec.specs.Term.{joined, more, none}
use Rattle.sp_term.specs.View.{view, view_all}
use Rattle.sp_destruct.proofs.Ways.{joined_none, joined_again, row_append, row_more}
use Rattle.sp_destruct.proofs.destruction.with_copies.Goals as goal

pub loop-term-init : goal.loop-term-init
loop-term-init c = sym (joined_none (view_all c.args.terms.items))

pub loop-term-preserved : goal.loop-term-preserved
loop-term-preserved c =
    let xs = c.args.others.now in
    ap view_all c.in_ok-push.ensures.items
    ∙ row_append c.loop-term.terms.items (c.in_ok-clone.field-0 ∷ [])
    ∙ ap (λ ts. joined ts (more (view c.in_ok-clone.field-0) none)) c.loop-term.invariant
    ∙ joined_again (view_all c.args.terms.items) (view_all (take c.loop-term.term-index xs)) (more (view c.in_ok-clone.field-0) none)
    ∙ ap (λ t. joined (view_all c.args.terms.items) (joined (view_all (take c.loop-term.term-index xs)) (more t none))) c.in_ok-clone.ensures.cases
    ∙ ap (joined (view_all c.args.terms.items)) (sym (row_more xs c.loop-term.term-index c.term-item.result c.loop-term-test.true c.term-item.is))
