use Rattle.std.proofs.Common.{◌≡◌, take, drop, map}
use Rattle.sp_fact.specs.GroundView.{ground_fact}
use Rattle.sp_transfer.specs.Sourced.{found, given_of}
use Rattle.sp_transfer.proofs.Sourced.{behind}
use Rattle.sp_transfer.proofs.state.place_of.Given as goal

abbrev pub invariant-loop-place : goal.invariant-loop-place
invariant-loop-place l =
    found (ground_fact l.fact) (map given_of l.facts.items)
    ≡ behind (map given_of (take l.place l.facts.items)) (found (ground_fact l.fact) (map given_of (drop l.place l.facts.items)))
