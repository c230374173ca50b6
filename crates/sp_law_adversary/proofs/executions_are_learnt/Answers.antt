use Rattle.sp_law_adversary.proofs.Learnt.{executions_learnt}
use Rattle.sp_law_adversary.proofs.executions_are_learnt.Goals as goal

pub returns : goal.returns
returns c = record { each = λ theory good keeps reserved steps trace e. executions_learnt theory good keeps reserved steps trace e }
