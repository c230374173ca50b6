use Rattle.std.proofs.Common.{arith}
use Rattle.std.proofs.lemmas.Grind.{common_steps}
use Rattle.sp_spec.specs.Term.{valued}
use Rattle.sp_term.specs.View.{view_by}
use Rattle.sp_term.proofs.Applied.{valued_each}
use Rattle.sp_term.proofs.Loops.{one_more}
use Rattle.sp_term.proofs.apply.+apply.Goals as goal

pub apply_all-returns : goal.apply_all-returns
apply_all-returns g t c =
    valued_each g.F.Assigns.from_of g.F.Assigns.to_of (g.F.Assigns.value_of c.args.values.now) c.loop-term.made.items c.args.terms.now.items
    (grind (arith, common_steps))

pub apply_all-loop-term-preserved : goal.apply_all-loop-term-preserved
apply_all-loop-term-preserved g t c =
    one_more (view_by g.F.Assigns.to_of) (λ u. valued (g.F.Assigns.value_of c.args.values.now) (view_by g.F.Assigns.from_of u))
    c.loop-term.made.items c.push.new.self.items c.deref-term-items.result.now c.loop-term.term-index c.in_ok-apply.field-0 c.term-item.result
    c.loop-term.invariant c.in_ok-push.ensures.items c.loop-term-test.true c.term-item.is c.in_ok-apply.ensures
