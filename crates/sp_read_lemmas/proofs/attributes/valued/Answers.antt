use Rattle.sp_read_lemmas.proofs.LemmaHeads.{valued_at, valued_no_name}
use Rattle.sp_read_lemmas.proofs.attributes.valued.Goals as goal

pub returns-in_err-found-clause-value : goal.returns-in_err-found-clause-value
returns-in_err-found-clause-value c = rw c.from_residual-in_err-found.ensures (valued_no_name c.in_ok-sign.ensures.value c.in_ok-named.ensures.value c.in_err-found.ensures.value)

pub returns-clause-value : goal.returns-clause-value
returns-clause-value c = valued_at c.in_ok-sign.ensures.value c.in_ok-named.ensures.value c.in_ok-found.ensures.value
