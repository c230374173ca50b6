use Rattle.std.proofs.Common.{◌≡◌, drop, map}
use Rattle.sp_fact.specs.GroundView.{ground_fact}
use Rattle.sp_log.specs.View.{source_of}
use Rattle.sp_transfer.specs.Construction as spec
use Rattle.sp_transfer.specs.Sourced.{given_of}
use Rattle.sp_transfer.proofs.Sourced.{with_sources}
use Rattle.sp_transfer.proofs.state.take_all.Given as goal

abbrev pub invariant-loop-premise : goal.invariant-loop-premise
invariant-loop-premise l =
    spec.take_all (map ground_fact l.premises.items) (map given_of l.fn.facts.items)
    ≡ with_sources (map source_of l.sources.items) (spec.take_all (map ground_fact (drop l.premise-index l.premise-items)) (map given_of l.facts.items))
