use Rattle.sp_law_guard.proofs.Timed.{form_timed}
use Rattle.sp_law_guard.proofs.guarded_forms_are_timed.Goals as goal

pub returns : goal.returns
returns c = record { each = form_timed }
