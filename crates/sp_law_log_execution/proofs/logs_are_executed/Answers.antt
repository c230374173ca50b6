use Rattle.sp_law_log_execution.proofs.Steps.{log_runs}
use Rattle.sp_law_log_execution.proofs.logs_are_executed.Goals as goal

pub returns : goal.returns
returns c = record { each = λ theory good log is. log_runs theory good log is }
