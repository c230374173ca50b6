use Rattle.std.proofs.Common.{arith}
use Rattle.sp_read_parts.proofs.One.{facts'}
use Rattle.sp_read_parts.proofs.Loops.{going_more, going_no_sign}
use Rattle.sp_read_parts.proofs.facts.facts.Goals as goal

pub loop-found-preserved : goal.loop-found-preserved
loop-found-preserved c =
    let one = rw c.in-Some.is at c.in_ok-next.ensures in
    record {
      reads = rw c.in_ok-push_fact.ensures (going_more facts' c.requires c.loop-found.invariant.reads one.value c.in-Some-after-2.ensures.value);
      further = omega (arith, one.further, c.in-Some-after-2.ensures.further, c.loop-found.invariant.further);
    }

pub returns-in-None-clause-value : goal.returns-in-None-clause-value
returns-in-None-clause-value c =
    let one = rw c.in-Some.is at c.in_ok-next.ensures in
    going_no_sign facts' c.loop-found.invariant.reads one.value c.in_default-after.ensures.value c.in-None.ensures.value
