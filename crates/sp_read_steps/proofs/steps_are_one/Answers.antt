use Rattle.sp_read_steps.proofs.Laws as laws
use Rattle.sp_read_steps.proofs.steps_are_one.Goals as goal

pub returns : goal.returns
returns c = laws.steps_are_one
