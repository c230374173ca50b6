use Rattle.sp_law_forms.proofs.Soundness.{sound_law}
use Rattle.sp_law_forms.proofs.forms_are_sound.Goals as goal

pub returns : goal.returns
returns c = sound_law
