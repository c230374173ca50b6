use Rattle.sp_law_forms.proofs.Completeness.{complete_law}
use Rattle.sp_law_forms.proofs.forms_are_complete.Goals as goal

pub returns : goal.returns
returns c = complete_law
