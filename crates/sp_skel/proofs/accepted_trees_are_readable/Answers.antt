use Rattle.sp_skel.proofs.Readable.{tree_readable, grown_readable}
use Rattle.sp_skel.proofs.accepted_trees_are_readable.Goals as goal

pub returns : goal.returns
returns c = record { accepted = tree_readable; grown = grown_readable }
