use Rattle.sp_law_decide.proofs.Told.{told, true_or_not, form_true_or_not}
use Rattle.sp_law_decide.proofs.truth_is_decided.Goals as goal

pub returns : goal.returns
returns c = record { each = told; either = true_or_not; form = form_true_or_not }
