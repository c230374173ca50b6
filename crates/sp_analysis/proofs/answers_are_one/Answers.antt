use Rattle.sp_analysis.proofs.AnswersOne.{answers_are_one_lem}
use Rattle.sp_analysis.proofs.answers_are_one.Goals as goal

pub returns : goal.returns
returns c = answers_are_one_lem
