use Rattle.sp_law_tree.proofs.WrittenRules.{names_stand_lem}
use Rattle.sp_law_tree.proofs.names_stand.Goals as goal

pub returns : goal.returns
returns c = names_stand_lem
