-- What the entries so far, chains and states in memory stand for.
use Rattle.std.specs.Prelude.{List, map}
use Rattle.sp_spec.specs.Lists.{newest_first}
use Rattle.sp_spec.specs.Log as log
use Rattle.sp_fact.specs.GroundView.{ground_of}
use Rattle.sp_learn.specs.View.{entry_of}
use Rattle.sp_learn.specs.declared.log.Entry.{Entry}
use Rattle.sp_law_adversary.specs.Learning as learning
use Rattle.sp_transfer.specs.declared.learning.Chain.{Chain}

-- the log of entries that have the oldest first
abbrev pub log_in : List Entry → log.Log
log_in entries = newest_first (map entry_of entries)

abbrev pub chain_of : Chain → learning.Chain
chain_of chain = record { position = chain.position; place = chain.place; messages = map ground_of chain.messages.items }
