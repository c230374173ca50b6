use Rattle.std.proofs.Common.{◌≡◌, map, drop}
use Rattle.sp_fact.specs.View.{fact_of}
use Rattle.sp_system.specs.SystemView.{link_of}
use Rattle.sp_log.specs.View.{source_of}
use Rattle.sp_spec_solved.specs.Candidate.{sources_from}
use Rattle.sp_solved.specs.ListingView.{events_of}
use Rattle.sp_spec.proofs.Options.{behind}
use Rattle.sp_solved.proofs.suggest.sources.Given as goal

abbrev pub invariant-loop-premise : goal.invariant-loop-premise
invariant-loop-premise l =
    behind (map source_of l.made.items)
    (sources_from (events_of l.listed.items) (map link_of l.links.items) l.time l.premise (map fact_of (drop l.premise l.premises.items)))
    ≡ sources_from (events_of l.listed.items) (map link_of l.links.items) l.time 0 (map fact_of l.premises.items)
