use Rattle.std.proofs.Common.{◌≡◌, drop, map}
use Rattle.sp_law_run.specs.Taken.{taken}
use Rattle.sp_fact.specs.GroundView.{ground_fact}
use Rattle.sp_exec.proofs.taking.take_all.Given as goal

abbrev pub invariant-loop-premise : goal.invariant-loop-premise
invariant-loop-premise l =
    taken (map ground_fact l.premises.items) (map ground_fact l.fn.facts.items)
    ≡ taken (map ground_fact (drop l.premise-index l.premise-items)) (map ground_fact l.facts.items)
