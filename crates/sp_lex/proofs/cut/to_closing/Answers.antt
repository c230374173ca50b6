use Rattle.std.proofs.Common.{sym, arith}
use Rattle.sp_lex.proofs.Solve.{closing_opens, closing_closes}
use Rattle.sp_lex.proofs.Pieces.{one_less}
use Rattle.sp_lex.proofs.cut.to_closing.Goals as goal

pub loop-byte-preserved-in-Opens : goal.loop-byte-preserved-in-Opens
loop-byte-preserved-in-Opens c =
    let i = c.loop-byte.invariant in
    record {
      reads = closing_opens c.loop-byte.quoted c.loop-byte.depth i.reads c.in-Some.ensures (sym c.in-Opens.ensures);
      depth = omega (arith, one_less c.in-Some.ensures);
    }

pub loop-byte-preserved-in-Closes : goal.loop-byte-preserved-in-Closes
loop-byte-preserved-in-Closes c =
    let i = c.loop-byte.invariant in
    record {
      reads = closing_closes c.loop-byte.quoted c.loop-byte.depth i.reads c.in-Some.ensures (sym c.in-Closes.ensures) c.if-depth-eq0.false;
      depth = omega (arith, one_less c.in-Some.ensures);
    }
