use Rattle.sp_law_printed_log.proofs.LogSteps.{logs_may_be_written_lem}
use Rattle.sp_law_printed_log.proofs.logs_may_be_written.Goals as goal

pub returns : goal.returns
returns c = logs_may_be_written_lem
