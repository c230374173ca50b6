use Rattle.sp_replay.proofs.One.{replies_are_one_lem}
use Rattle.sp_replay.proofs.replies_are_one.Goals as goal

pub returns : goal.returns
returns c = replies_are_one_lem
