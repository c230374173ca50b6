use Rattle.sp_law_truth.proofs.Stable.{stable_truth}
use Rattle.sp_law_truth.proofs.StableGuarded.{stable_guarded}
use Rattle.sp_law_truth.proofs.truth_is_classical.Goals as goal

pub returns : goal.returns
returns c = record { written = stable_truth; guarded = stable_guarded }
