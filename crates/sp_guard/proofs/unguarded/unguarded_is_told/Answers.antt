use Rattle.sp_guard.proofs.NoneUnguarded
use Rattle.sp_guard.proofs.unguarded.unguarded_is_told.Goals as goal

pub returns : goal.returns
returns c = NoneUnguarded.unguarded_is_told
