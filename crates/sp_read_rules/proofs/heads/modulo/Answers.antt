use Rattle.sp_read_rules.proofs.RuleHeads.{modulo_at, modulo_no_name}
use Rattle.sp_read_rules.proofs.heads.modulo.Goals as goal

pub returns-in_err-close-clause-value : goal.returns-in_err-close-clause-value
returns-in_err-close-clause-value c = rw c.from_residual-in_err-close.ensures (modulo_no_name c.in_ok-inside.ensures.value c.in_ok-named.ensures.value c.in_err-close.ensures.value)

pub returns-clause-value : goal.returns-clause-value
returns-clause-value c = modulo_at c.in_ok-inside.ensures.value c.in_ok-named.ensures.value c.in_ok-close.ensures.value c.in_ok-rest.ensures.value
