use Rattle.sp_law_cover.proofs.Covering.{nothing_is_lost_lem}
use Rattle.sp_law_cover.proofs.nothing_is_lost.Goals as goal

pub returns : goal.returns
returns c = nothing_is_lost_lem
