use Rattle.sp_law_guard.proofs.Closed.{form_closed}
use Rattle.sp_law_guard.proofs.guarded_forms_are_closed.Goals as goal

pub returns : goal.returns
returns c = record { each = form_closed }
