use Rattle.sp_law_conv.proofs.Convergent.{convergence_law}
use Rattle.sp_law_conv.proofs.accepted_are_convergent.Goals as goal

pub returns : goal.returns
returns c = convergence_law
