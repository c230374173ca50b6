use Rattle.sp_law_run.proofs.Runs.{runs_alike}
use Rattle.sp_law_run.proofs.states_are_one.Goals as goal

pub returns : goal.returns
returns c = record { each = λ theory good right steps s t shown other a b. runs_alike theory good right steps s t shown other a b }
