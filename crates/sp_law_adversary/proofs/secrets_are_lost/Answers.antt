use Rattle.sp_law_adversary.proofs.Lost.{secrets_lost}
use Rattle.sp_law_adversary.proofs.secrets_are_lost.Goals as goal

pub returns : goal.returns
returns c = secrets_lost
