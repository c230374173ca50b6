use Rattle.sp_law_tree.proofs.AllShown.{lemmas_are_shown_lem}
use Rattle.sp_law_tree.proofs.lemmas_are_shown.Goals as goal

pub returns : goal.returns
returns c = lemmas_are_shown_lem
