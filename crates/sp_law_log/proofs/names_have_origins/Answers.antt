use Rattle.sp_law_log.proofs.Used.{has_origins}
use Rattle.sp_law_log.proofs.names_have_origins.Goals as goal

pub returns : goal.returns
returns c = record { each = has_origins }
