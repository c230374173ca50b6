use Rattle.sp_law_unify.proofs.Unique as law
use Rattle.sp_law_unify.proofs.most_general_is_one.Goals as goal

pub returns : goal.returns
returns c = law.one_law
