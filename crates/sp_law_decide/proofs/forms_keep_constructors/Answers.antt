use Rattle.sp_law_decide.proofs.ConstructorForms.{form_keeps}
use Rattle.sp_law_decide.proofs.forms_keep_constructors.Goals as goal

pub returns : goal.returns
returns c = record { each = form_keeps }
