-- What is learnt of the parts at the end of a chain, one after the other.
use Rattle.std.specs.Prelude.{List}
use Rattle.sp_spec.specs.Term.{none, more, Grounds}
use Rattle.sp_spec.specs.Signature.{Symbol}
use Rattle.sp_spec.specs.Log.{Log}
use Rattle.sp_law_adversary.specs.Learning.{Chain, with_message, absorbed}

abbrev pub absorbed_parts : List Symbol → Chain → Grounds → Log → Log
absorbed_parts symbols chain none log = log
absorbed_parts symbols chain (more t ts) log = absorbed_parts symbols chain ts (absorbed symbols (with_message chain t) t log)
