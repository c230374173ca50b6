use Rattle.sp_law_truth.proofs.EqualTraces.{equal_same}
use Rattle.sp_law_truth.proofs.equal_values_keep_truth.Goals as goal

pub returns : goal.returns
returns c = record { each = equal_same }
