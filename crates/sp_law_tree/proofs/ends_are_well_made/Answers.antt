use Rattle.sp_law_tree.proofs.WellMadeEnds.{ends_are_well_made_lem}
use Rattle.sp_law_tree.proofs.ends_are_well_made.Goals as goal

pub returns : goal.returns
returns c = ends_are_well_made_lem
