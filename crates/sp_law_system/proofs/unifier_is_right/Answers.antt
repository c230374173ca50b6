use Rattle.sp_law_system.proofs.unifier_is_right.Goals as goal
use Rattle.sp_law_system.proofs.Unifier as law

pub returns : goal.returns
returns c = law.unifier_is_right
