use Rattle.std.proofs.Common.{arith}
use Rattle.sp_read_listings.proofs.Words.{words_more}
use Rattle.sp_read_listings.proofs.heuristic.words.Goals as goal

pub loop-next-preserved : goal.loop-next-preserved
loop-next-preserved c = record {
  reads = rw c.in_ok-push_word.ensures (words_more c.loop-next.invariant.reads c.in-Some.ensures.value (let e = c.begins_item.ensures in let f = c.if-begins_item.false in cc));
  further = omega (arith, c.in-Some.ensures.further, c.loop-next.invariant.further);
}
