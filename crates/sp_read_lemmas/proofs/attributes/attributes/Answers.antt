use Rattle.std.proofs.Common.{arith}
use Rattle.sp_read_parts.proofs.Loops.{going_more, going_no_sign}
use Rattle.sp_read_lemmas.proofs.LemmaHeads.{attributes'}
use Rattle.sp_read_lemmas.proofs.attributes.attributes.Goals as goal

pub loop-next-preserved : goal.loop-next-preserved
loop-next-preserved c =
    record {
      reads = rw c.in_ok-push_attribute.ensures (going_more attributes' (λ e. cc) c.loop-next.invariant.reads c.in-Some.ensures.value c.in-Some-after-2.ensures.value);
      further = omega (arith, c.in-Some.ensures.further, c.in-Some-after-2.ensures.further, c.loop-next.invariant.further);
    }

pub returns-in-None-clause-value : goal.returns-in-None-clause-value
returns-in-None-clause-value c = going_no_sign attributes' c.loop-next.invariant.reads c.in-Some.ensures.value c.in_default-after.ensures.value c.in-None.ensures.value
