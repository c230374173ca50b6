use Rattle.sp_law_reread.proofs.Behind.{behind_end, behind_one}
use Rattle.sp_law_reread.proofs.texts_end.Goals as goal

pub returns : goal.returns
returns c = record { behind = behind_end; one = behind_one }
