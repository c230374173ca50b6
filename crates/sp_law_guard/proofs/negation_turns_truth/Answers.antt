use Rattle.sp_law_guard.proofs.Turned.{turned}
use Rattle.sp_law_guard.proofs.negation_turns_truth.Goals as goal

pub returns : goal.returns
returns c = record { each = λ signature trace m g. turned signature trace g m }
