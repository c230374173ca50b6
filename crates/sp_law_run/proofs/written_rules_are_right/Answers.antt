use Rattle.sp_law_run.proofs.Written.{rules_right, rules_over}
use Rattle.sp_law_run.proofs.written_rules_are_right.Goals as goal

pub returns : goal.returns
returns c = record { each = λ rules d. rules_right rules d; over = λ symbols rules h. rules_over symbols rules h }
