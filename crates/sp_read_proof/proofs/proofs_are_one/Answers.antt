use Rattle.sp_read_proof.proofs.One.{proof_one}
use Rattle.sp_read_proof.proofs.proofs_are_one.Goals as goal

pub returns : goal.returns
returns c = record { one = λ ts r q k j h i. proof_one h i }
