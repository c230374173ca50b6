use Rattle.std.proofs.Common.{sym, ◌∙◌, arith}
use Rattle.sp_read_parts.proofs.Annotated.{annotating_more}
use Rattle.sp_read_parts.proofs.annotations.annotation_list.Goals as goal

pub loop-found-preserved : goal.loop-found-preserved
loop-found-preserved c =
    record {
      reads = annotating_more c.loop-found.invariant.reads c.in_ok-found.ensures.value (sym c.is_annotation.ensures ∙ c.if-not-is_annotation.false) c.in_ok-rest.ensures.value;
      further = omega (arith, c.in_ok-found.ensures.further, c.in_ok-rest.ensures.further, c.loop-found.invariant.further);
    }
