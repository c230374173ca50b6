use Rattle.sp_law_found_log.proofs.Ends.{searches_end_as_sought_lem}
use Rattle.sp_law_found_log.proofs.searches_end_as_sought.Goals as goal

pub returns : goal.returns
returns c = searches_end_as_sought_lem
