use Rattle.sp_exec.proofs.Replays.{one_trace, one_fault, no_execution}
use Rattle.sp_exec.proofs.replay.replays_are_one.Goals as goal

pub returns : goal.returns
returns c = record {
  traces = λ theory steps trace other a b. one_trace theory steps trace other a b;
  faults = λ theory steps n m cause other f g. one_fault theory steps n m cause other f g;
  excludes = λ theory steps n cause f trace h. no_execution theory steps n cause f trace h;
}
