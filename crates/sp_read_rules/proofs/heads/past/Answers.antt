use Rattle.sp_read_rules.proofs.Balances.{pass_other}
use Rattle.sp_read_rules.proofs.heads.past.Goals as goal

pub returns-clause-value : goal.returns-clause-value
returns-clause-value c = pass_other c.requires.some c.in_default.ensures.value c.in_default-after.ensures.value c.in_default-behind.ensures.value c.in_ok-rest.ensures.value
