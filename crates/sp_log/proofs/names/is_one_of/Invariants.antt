use Rattle.std.proofs.Common.{◌≡◌, drop, map}
use Rattle.sp_spec.specs.Same.{same_term}
use Rattle.sp_fact.specs.GroundView.{ground_of}
use Rattle.sp_log.specs.Checking.{is_one_of}
use Rattle.sp_log.proofs.names.is_one_of.Given as goal

abbrev pub invariant-loop-other : goal.invariant-loop-other
invariant-loop-other l =
    is_one_of same_term (map ground_of l.names.items) (ground_of l.name) ≡ is_one_of same_term (map ground_of (drop l.other-index l.other-items)) (ground_of l.name)
