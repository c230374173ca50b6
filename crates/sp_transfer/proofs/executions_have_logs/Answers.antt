use Rattle.sp_transfer.proofs.Run.{right_theory_logged}
use Rattle.sp_transfer.proofs.executions_have_logs.Goals as goal

pub returns : goal.returns
returns c = record { each = λ theory right steps trace e. right_theory_logged theory right steps trace e }
