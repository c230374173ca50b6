use Rattle.sp_law_system.proofs.before_is_a_path.Goals as goal
use Rattle.sp_law_system.proofs.ShortPaths as law

pub returns : goal.returns
returns c = law.before_is_a_path_lem
