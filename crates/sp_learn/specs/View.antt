-- What learning logs in memory stand for.
use Rattle.std.specs.Prelude.{◌≡◌, List, map}
use Rattle.sp_spec.specs.Log as spec
use Rattle.sp_spec.specs.Lists.{newest_first}
use Rattle.sp_fact.specs.GroundView.{ground_of}
use Rattle.sp_log.specs.View as steps
use Rattle.sp_log.specs.View.{source_of}
use Rattle.sp_learn.specs.Learning.{learnt_in}
use Rattle.sp_learn.specs.declared.check.Used.{Used}
use Rattle.sp_learn.specs.declared.log.How.{How}
use Rattle.sp_learn.specs.declared.log.How.TheVariants.{PublicName, OwnName, Constructed, Chain}
use Rattle.sp_learn.specs.declared.log.Entry.{Entry}
use Rattle.sp_learn.specs.declared.log.Entry.TheVariants.{Step, Send, Learn}
use Rattle.sp_learn.specs.declared.log.Log.{Log}

abbrev pub how_of : How → spec.How
how_of PublicName = spec.public_name
how_of OwnName = spec.own_name
how_of Constructed = spec.constructed
how_of (Chain p k messages) = spec.by_chain p k (map ground_of messages.items)

abbrev pub entry_of : Entry → spec.Entry
entry_of (Step e) = steps.entry_of e
entry_of (Send m) = spec.send (ground_of m)
entry_of (Learn m how) = spec.learn (ground_of m) (how_of how)

-- the entries, the oldest first
abbrev pub entries_of : Log → List spec.Entry
entries_of log = map entry_of log.entries.items

abbrev pub log_of : Log → spec.Log
log_of log = newest_first (entries_of log)

-- these are the linear sources, the fresh names and the learnt messages of the entries
pub record IsUsed (used : Used) (entries : List spec.Entry) : Type 0 where
  pub sources : map source_of used.sources.items ≡ spec.all_sources entries
  pub names : map ground_of used.names.items ≡ spec.all_fresh_uses entries
  pub learnt : map ground_of used.learnt.items ≡ learnt_in entries
