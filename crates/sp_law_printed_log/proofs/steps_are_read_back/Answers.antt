use Rattle.sp_law_printed_log.proofs.ReadBack.{steps_are_read_back_lem}
use Rattle.sp_law_printed_log.proofs.steps_are_read_back.Goals as goal

pub returns : goal.returns
returns c = steps_are_read_back_lem
