use Rattle.sp_law_induction.proofs.Covering.{covers}
use Rattle.sp_law_induction.proofs.cases_cover_traces.Goals as goal

pub returns : goal.returns
returns c = record { each = covers }
