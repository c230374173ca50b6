use Rattle.sp_law_inductive.proofs.Principle.{induction}
use Rattle.sp_law_inductive.proofs.induction_shows.Goals as goal

pub returns : goal.returns
returns c = record { each = induction }
