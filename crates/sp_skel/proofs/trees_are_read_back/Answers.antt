use Rattle.sp_skel.proofs.ReadBack.{reads_back}
use Rattle.sp_skel.proofs.trees_are_read_back.Goals as goal

pub returns : goal.returns
returns c = record { back = reads_back }
