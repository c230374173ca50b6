use Rattle.sp_law_found_log.proofs.Found.{found_logs_show_lem}
use Rattle.sp_law_found_log.proofs.found_logs_show.Goals as goal

pub returns : goal.returns
returns c = found_logs_show_lem
