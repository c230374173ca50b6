use Rattle.sp_law_truth.proofs.Shown.{equal_shown_same}
use Rattle.sp_law_truth.proofs.leaving_out_keeps_truth.Goals as goal

pub returns : goal.returns
returns c = record { each = λ signature names trace other e f timed named m. equal_shown_same signature names trace other e m f timed named }
