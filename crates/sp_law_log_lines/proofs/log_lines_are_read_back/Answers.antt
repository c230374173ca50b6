use Rattle.sp_law_log_lines.proofs.ReadBack.{log_lines_are_read_back_lem}
use Rattle.sp_law_log_lines.proofs.log_lines_are_read_back.Goals as goal

pub returns : goal.returns
returns c = log_lines_are_read_back_lem
