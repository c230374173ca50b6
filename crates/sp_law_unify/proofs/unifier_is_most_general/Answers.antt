use Rattle.sp_law_unify.proofs.Unique as law
use Rattle.sp_law_unify.proofs.unifier_is_most_general.Goals as goal

pub returns : goal.returns
returns c = law.unifier_law
