use Rattle.std.proofs.Common.{◌≡◌, take, drop, map}
use Rattle.sp_law_run.specs.Taken.{removed}
use Rattle.sp_fact.specs.GroundView.{ground_fact}
use Rattle.sp_spec.proofs.Options.{behind}
use Rattle.sp_exec.proofs.taking.place_of.Given as goal

abbrev pub invariant-loop-place : goal.invariant-loop-place
invariant-loop-place l =
    removed (ground_fact l.fact) (map ground_fact l.facts.items)
    ≡ behind (map ground_fact (take l.place l.facts.items)) (removed (ground_fact l.fact) (map ground_fact (drop l.place l.facts.items)))
