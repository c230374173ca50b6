use Rattle.std.proofs.Common.{◌≡◌, map, drop}
use Rattle.sp_fact.specs.View.{fact_of}
use Rattle.sp_system.specs.SystemView.{event_of, link_of}
use Rattle.sp_spec_solved.specs.Candidate.{are_sourced}
use Rattle.sp_solved.proofs.suggest.are_sourced.Given as goal

abbrev pub invariant-loop-premise : goal.invariant-loop-premise
invariant-loop-premise l =
    are_sourced (map event_of l.events.items) (map link_of l.links.items) l.time 0 (map fact_of l.premises.items)
    ≡ are_sourced (map event_of l.events.items) (map link_of l.links.items) l.time l.premise (map fact_of (drop l.premise l.premises.items))
