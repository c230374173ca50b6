use Rattle.sp_law_tree.proofs.OverLogs.{shown_is_taken_lem}
use Rattle.sp_law_tree.proofs.shown_is_taken.Goals as goal

pub returns : goal.returns
returns c = shown_is_taken_lem
