use Rattle.sp_analysis.proofs.Right.{verdicts_are_right_lem}
use Rattle.sp_analysis.proofs.verdicts_are_right.Goals as goal

pub returns : goal.returns
returns c = verdicts_are_right_lem
