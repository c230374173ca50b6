use Rattle.std.proofs.Common.{◌∙◌, arith}
use Rattle.sp_rows_formula.specs.OpeningView.{change_of}
use Rattle.sp_rows_formula.proofs.Openings.{opened_more}
use Rattle.sp_rows_formula.proofs.opening.NewVariables.of.Goals as goal

pub loop-binder-preserved : goal.loop-binder-preserved
loop-binder-preserved c = (
  c.loop-binder.invariant.0
      ∙ opened_more c.deref-binder-items.result.now c.loop-binder.binder-index _ c.loop-binder.made.next c.in_ok-made.made.next (change_of c.loop-binder.made.values) (change_of c.in_ok-made.made.values)
      c.loop-binder-test.true c.in_ok-made.ensures.next c.in_ok-made.ensures.change,
  omega (arith, c.loop-binder.invariant.1, c.in_ok-made.ensures.next),
)
