use Rattle.sp_law_basic.proofs.RightTexts.{texts_are_right_lem}
use Rattle.sp_law_basic.proofs.texts_are_right.Goals as goal

pub returns : goal.returns
returns c = texts_are_right_lem
