use Rattle.sp_law_inductive.proofs.Logs.{prefix_of_log}
use Rattle.sp_law_inductive.proofs.prefixes_are_of_logs.Goals as goal

pub returns : goal.returns
returns c = record { each = prefix_of_log }
