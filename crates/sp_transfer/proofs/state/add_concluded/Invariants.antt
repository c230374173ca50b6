use Rattle.std.proofs.Common.{◌≡◌, ◌++◌, drop, map}
use Rattle.sp_fact.specs.GroundView.{ground_fact}
use Rattle.sp_transfer.specs.Construction as spec
use Rattle.sp_transfer.specs.Sourced.{given_of}
use Rattle.sp_transfer.proofs.state.add_concluded.Given as goal

abbrev pub invariant-loop-place : goal.invariant-loop-place
invariant-loop-place l =
    map given_of l.facts.items ++ spec.concluded l.position l.place (map ground_fact (drop l.place l.conclusions.items))
    ≡ map given_of l.fn.facts.items ++ spec.concluded l.position 0 (map ground_fact l.conclusions.items)
