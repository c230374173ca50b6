use Rattle.sp_law_log_lines.proofs.Told.{logs_are_told_lem}
use Rattle.sp_law_log_lines.proofs.logs_are_told.Goals as goal

pub returns : goal.returns
returns c = logs_are_told_lem
