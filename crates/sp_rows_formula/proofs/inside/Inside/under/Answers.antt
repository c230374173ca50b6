use Rattle.std.proofs.Common.{sym, ◌∙◌}
use Rattle.sp_rows_formula.specs.InsideView.{inside_of}
use Rattle.sp_rows_formula.proofs.Lifted.{under_more, under_nothing}
use Rattle.sp_rows_formula.proofs.inside.Inside.under.Goals as goal

pub loop-binder-preserved : goal.loop-binder-preserved
loop-binder-preserved c d =
    c.loop-binder.invariant d
    ∙ under_more c.deref-binder-items.result.now c.loop-binder.binder-index _ (inside_of c.loop-binder.made d) (inside_of c.in_ok-made.made d) c.loop-binder-test.true (c.in_ok-made.ensures d)

pub returns : goal.returns
returns c d = sym (c.loop-binder.invariant d ∙ under_nothing c.deref-binder-items.result.now c.loop-binder.binder-index (inside_of c.loop-binder.made d) c.loop-binder-test.false)
