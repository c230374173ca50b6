-- What steps of logs in memory stand for.
use Rattle.std.specs.Prelude.{map}
use Rattle.sp_spec.specs.Log as spec
use Rattle.sp_term.specs.View.{name_of}
use Rattle.sp_fact.specs.GroundView.{ground_facts}
use Rattle.sp_log.specs.declared.log.Source.{Source}
use Rattle.sp_log.specs.declared.log.Source.TheVariants.{FreshRule, Conclusion}
use Rattle.sp_log.specs.declared.log.Entry.{Entry}

abbrev pub source_of : Source → spec.Source
source_of FreshRule = spec.fresh_rule
source_of (Conclusion p k) = spec.conclusion p k

abbrev pub entry_of : Entry → spec.Entry
entry_of e = spec.step (name_of e.rule) (ground_facts e.facts) (map source_of e.sources.items)
