use Rattle.sp_read_theory.proofs.Whole.{all_spans}
use Rattle.sp_read_theory.proofs.read.read_tokens.Goals as goal

pub returns-clause-spans : goal.returns-clause-spans
returns-clause-spans c =
    let all = rw c.in-Some-2.is at c.in_ok-items.ensures in
    all_spans c.args.tokens.now c.in-Some.body c.in-Some.ensures.further.1 c.in-Some.ensures.value all.places
