use Rattle.std.proofs.Common.{arith}
use Rattle.sp_analysis.proofs.Writing.{next_in, next_place, proof_written}
use Rattle.sp_analysis.proofs.written.write_proofs.Goals as goal

pub write_proof-requires : goal.write_proof-requires
write_proof-requires c =
    let n = next_in c.deref-lemma-items.result.now c.args.lemmas.now.items c.loop-lemma.lemma-index c.lemma-item.result c.deref-lemma-items.ensures.value c.loop-lemma-test.true c.lemma-item.is in
    let p = next_place c.args.text.now c.loop-lemma.start c.args.end c.loop-lemma.lemma-index c.args.lemmas.now.items c.lemma-item.result n.below n.is c.loop-lemma.invariant.rise in
    record { start = p.later; end = omega (arith, p.ordered, p.reached, p.within, c.requires.end) }

pub goes_on-start-requires : goal.goes_on-start-requires
goes_on-start-requires c =
    let n = next_in c.deref-lemma-items.result.now c.args.lemmas.now.items c.loop-lemma.lemma-index c.lemma-item.result c.deref-lemma-items.ensures.value c.loop-lemma-test.true c.lemma-item.is in
    let p = next_place c.args.text.now c.loop-lemma.start c.args.end c.loop-lemma.lemma-index c.args.lemmas.now.items c.lemma-item.result n.below n.is c.loop-lemma.invariant.rise in
    omega (arith, p.reached, p.within, c.requires.end)

pub loop-lemma-preserved : goal.loop-lemma-preserved
loop-lemma-preserved c =
    let n = next_in c.deref-lemma-items.result.now c.args.lemmas.now.items c.loop-lemma.lemma-index c.lemma-item.result c.deref-lemma-items.ensures.value c.loop-lemma-test.true c.lemma-item.is in
    let p = next_place c.args.text.now c.loop-lemma.start c.args.end c.loop-lemma.lemma-index c.args.lemmas.now.items c.lemma-item.result n.below n.is c.loop-lemma.invariant.rise in
    record {
      rise = rw c.goes_on-start.ensures p.rise;
      so_far = rw c.goes_on-start.ensures
          (proof_written c.loop-lemma.out.items c.write_proof.new.out.items (_) c.args.text.now c.deref.result.now c.loop-lemma.start c.args.end c.loop-lemma.lemma-index
          c.args.lemmas.now.items c.lemma-item.result n.below n.is c.loop-lemma.invariant.so_far c.deref.ensures c.in_ok-write_proof.ensures);
    }
