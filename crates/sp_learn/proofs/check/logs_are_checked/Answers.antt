use Rattle.sp_learn.proofs.Checks.{log_decides}
use Rattle.sp_learn.proofs.check.logs_are_checked.Goals as goal

pub returns : goal.returns
returns c = record { each = λ theory good entries. log_decides theory good entries }
