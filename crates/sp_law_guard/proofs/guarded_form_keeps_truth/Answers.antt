use Rattle.sp_law_guard.proofs.Kept.{form_kept}
use Rattle.sp_law_guard.proofs.guarded_form_keeps_truth.Goals as goal

pub returns : goal.returns
returns c = record { each = form_kept }
