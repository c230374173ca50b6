use Rattle.std.proofs.Common.{sym, ◌∙◌, ap, arith}
use Rattle.std.proofs.lemmas.Bool.{false_from_ne_true}
use Rattle.sp_spec.specs.Term.{count}
use Rattle.sp_term.specs.View.{view_all_by}
use Rattle.sp_spec.proofs.Same.{same_all_by_decides}
use Rattle.sp_term.proofs.Lists.{count-view_all}
use Rattle.sp_term.proofs.term.+same.Goals as goal

pub all_same-returns-then-len : goal.all_same-returns-then-len
all_same-returns-then-len g t c =
    let xs = c.args.xs.now in
    let ys = c.args.ys.now in
    let leaf_of = g.L.Leaf.leaf_of in
    let decides = same_all_by_decides g.L.Leaf.test g.met.L.Leaf.decides (view_all_by leaf_of xs.items) (view_all_by leaf_of ys.items) in
    sym
    (false_from_ne_true _
    (λ h.
    let e = sym (count-view_all leaf_of xs.items) ∙ ap count (decides.0 h) ∙ count-view_all leaf_of ys.items in
    absurd (omega (arith, e, c.if-len.true, c.len.ensures, c.len-2.ensures, xs.ok.0, ys.ok.0))))
