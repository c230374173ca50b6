use Rattle.std.proofs.Common.{◌≡◌, ◌++◌, drop, map}
use Rattle.sp_spec.specs.Log.{fresh_of}
use Rattle.sp_fact.specs.GroundView.{ground_fact, ground_of}
use Rattle.sp_log.proofs.names.fresh_names.Given as goal

abbrev pub invariant-loop-premise : goal.invariant-loop-premise
invariant-loop-premise l =
    map ground_of l.names.items ++ fresh_of (map ground_fact (drop l.premise-index l.premise-items)) ≡ fresh_of (map ground_fact l.premises.items)
