use Rattle.sp_law_sources.proofs.Extended.{together_is_both_lem}
use Rattle.sp_law_sources.proofs.together_is_both.Goals as goal

pub returns : goal.returns
returns c = together_is_both_lem
