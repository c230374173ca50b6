use Rattle.sp_read_lemmas.proofs.LemmaHeads.{restriction_no_colon, restriction_no_quote}
use Rattle.sp_read_lemmas.proofs.attributes.restriction_head.Goals as goal

pub returns-in_err-quote-clause-value : goal.returns-in_err-quote-clause-value
returns-in_err-quote-clause-value c = rw c.from_residual-in_err-quote.ensures (restriction_no_colon c.in_ok-keyword.ensures.value c.in_ok-found.ensures.value c.in_err-quote.ensures.value)

pub returns-in_err-rest-clause-value : goal.returns-in_err-rest-clause-value
returns-in_err-rest-clause-value c = rw c.from_residual-in_err-rest.ensures (restriction_no_quote c.in_ok-keyword.ensures.value c.in_ok-found.ensures.value c.in_ok-quote.ensures.value c.in_err-rest.ensures.value)
