use Rattle.std.proofs.Common.{sym, arith}
use Rattle.sp_lex.proofs.Gaps.{comment_opens, comment_closes, comment_goes}
use Rattle.sp_lex.proofs.Pieces.{one_less}
use Rattle.sp_lex.proofs.cut.after_comment.Goals as goal

pub loop-first-preserved-in-Opens : goal.loop-first-preserved-in-Opens
loop-first-preserved-in-Opens c =
    let i = c.loop-first.invariant in
    record {
      reads = comment_opens c.loop-first.depth i.reads c.in-Some.ensures c.in-Some-split.ensures (sym c.in-Opens.ensures);
      depth = omega (arith, one_less c.in-Some.ensures, one_less c.in-Some-split.ensures);
    }

pub loop-first-preserved-in-Closes : goal.loop-first-preserved-in-Closes
loop-first-preserved-in-Closes c =
    let i = c.loop-first.invariant in
    record {
      reads = comment_closes c.loop-first.depth i.reads c.in-Some.ensures c.in-Some-split.ensures (sym c.in-Closes.ensures) c.if-depth-eq0.false;
      depth = omega (arith, one_less c.in-Some.ensures, one_less c.in-Some-split.ensures);
    }

pub loop-first-preserved : goal.loop-first-preserved
loop-first-preserved c =
    let i = c.loop-first.invariant in
    record {
      reads = comment_goes c.loop-first.depth i.reads c.in-Some.ensures c.in-Some-split.ensures (sym c.in-Neither.ensures);
      depth = omega (arith, one_less c.in-Some.ensures, one_less c.in-Some-split.ensures);
    }
