use Rattle.sp_law_inductive.proofs.Covering.{induction_covers, no_cases_cover}
use Rattle.sp_law_inductive.proofs.induction_is_covered.Goals as goal

pub returns : goal.returns
returns c = record { covers = induction_covers; no_cases = no_cases_cover }
