use Rattle.sp_read_theory.proofs.OneTheory.{theory_one}
use Rattle.sp_read_theory.proofs.Whole.{text_one, places_one}
use Rattle.sp_read_theory.proofs.texts_say_one_theory.Goals as goal

pub returns : goal.returns
returns c = record { spelled = λ ts t u h k. theory_one h k; said = λ text t u h k. text_one h k; placed = λ text t ss rs a b h k. places_one h k }
