use Rattle.sp_analysis.proofs.ReadBack.{executions_are_read_back_lem}
use Rattle.sp_analysis.proofs.executions_are_read_back.Goals as goal

pub returns : goal.returns
returns c = executions_are_read_back_lem
