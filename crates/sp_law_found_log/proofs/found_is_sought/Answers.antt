use Rattle.sp_law_found_log.proofs.Sought.{found_is_sought_lem}
use Rattle.sp_law_found_log.proofs.found_is_sought.Goals as goal

pub returns : goal.returns
returns c = found_is_sought_lem
