use Rattle.sp_law_finish.proofs.Decided.{ended_is_decided_lem}
use Rattle.sp_law_finish.proofs.ended_is_decided.Goals as goal

pub returns : goal.returns
returns c = ended_is_decided_lem
