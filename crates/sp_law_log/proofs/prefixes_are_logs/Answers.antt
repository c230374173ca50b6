use Rattle.sp_law_log.proofs.Entries.{past_is_log}
use Rattle.sp_law_log.proofs.prefixes_are_logs.Goals as goal

pub returns : goal.returns
returns c = record { each = λ theory later past is. past_is_log theory later past is }
