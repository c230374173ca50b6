use Rattle.sp_analysis.proofs.Again.{written_is_checked_lem}
use Rattle.sp_analysis.proofs.written_is_checked.Goals as goal

pub returns : goal.returns
returns c = written_is_checked_lem
