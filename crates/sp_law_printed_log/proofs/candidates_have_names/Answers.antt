use Rattle.sp_law_printed_log.proofs.CandidateNames.{candidates_have_names_lem}
use Rattle.sp_law_printed_log.proofs.candidates_have_names.Goals as goal

pub returns : goal.returns
returns c = candidates_have_names_lem
