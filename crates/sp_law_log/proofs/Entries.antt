-- What an entry of a log rests on: the log that it was added to.
use Rattle.std.proofs.Common.{[], ◌∷◌, ◌++◌}
use Rattle.sp_spec.specs.Theory.{Theory}
use Rattle.sp_spec.specs.Log.{Log, IsLog}

pub past_is_log : (theory : Theory) (later past : Log) → IsLog theory (later ++ past) → IsLog theory past
past_is_log theory [] past is = is
past_is_log theory (e ∷ later) past is = past_is_log theory later past is.0
