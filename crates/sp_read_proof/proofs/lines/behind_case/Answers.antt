use Rattle.sp_read_proof.proofs.Methods.{next_at}
use Rattle.sp_read_proof.proofs.lines.behind_case.Goals as goal

pub returns-clause-value : goal.returns-clause-value
returns-clause-value c = next_at c.in_ok-next.ensures.value c.in_ok-inside.ensures.value c.in_ok-case.ensures.value
