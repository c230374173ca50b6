use Rattle.sp_law_tree.proofs.Suited.{right_theories_suit_lem}
use Rattle.sp_law_tree.proofs.right_theories_suit.Goals as goal

pub returns : goal.returns
returns c = right_theories_suit_lem
