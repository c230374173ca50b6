use Rattle.sp_place.proofs.Places.{refusals_one}
use Rattle.sp_place.proofs.refusals_are_one.Goals as goal

pub returns : goal.returns
returns c = record { one = λ text p q u v. refusals_one u v }
