use Rattle.sp_read_atoms.proofs.LetBindings.{bindings_one}
use Rattle.sp_read_atoms.proofs.bindings_are_one.Goals as goal

pub returns : goal.returns
returns c = record { one = λ ts r q bs cs h k. bindings_one h k }
