use Rattle.sp_law_guard.proofs.Named.{form_named}
use Rattle.sp_law_guard.proofs.guarded_forms_name.Goals as goal

pub returns : goal.returns
returns c = record { each = form_named }
