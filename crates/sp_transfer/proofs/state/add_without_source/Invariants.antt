use Rattle.std.proofs.Common.{◌≡◌, ◌++◌, drop, map}
use Rattle.sp_fact.specs.GroundView.{ground_fact}
use Rattle.sp_transfer.specs.Construction as spec
use Rattle.sp_transfer.specs.Sourced.{given_of}
use Rattle.sp_transfer.proofs.state.add_without_source.Given as goal

abbrev pub invariant-loop-conclusion : goal.invariant-loop-conclusion
invariant-loop-conclusion l =
    map given_of l.facts.items ++ spec.without_source (map ground_fact (drop l.conclusion-index l.conclusion-items))
    ≡ map given_of l.fn.facts.items ++ spec.without_source (map ground_fact l.conclusions.items)
