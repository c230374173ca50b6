use Rattle.sp_law_tree.proofs.Roots.{roots_are_solved_lem}
use Rattle.sp_law_tree.proofs.roots_are_solved.Goals as goal

pub returns : goal.returns
returns c = roots_are_solved_lem
