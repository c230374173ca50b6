use Rattle.sp_law_finish.proofs.Examples.{inputs_are_reserved_lem}
use Rattle.sp_law_finish.proofs.inputs_are_reserved.Goals as goal

pub returns : goal.returns
returns c = inputs_are_reserved_lem
