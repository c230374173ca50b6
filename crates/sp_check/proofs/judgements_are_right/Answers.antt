use Rattle.sp_check.proofs.Right.{judgements_right}
use Rattle.sp_check.proofs.judgements_are_right.Goals as goal

pub returns : goal.returns
returns c = judgements_right
