use Rattle.sp_law_tree.proofs.OverLogs.{trees_show_logs_lem}
use Rattle.sp_law_tree.proofs.trees_show_logs.Goals as goal

pub returns : goal.returns
returns c = trees_show_logs_lem
