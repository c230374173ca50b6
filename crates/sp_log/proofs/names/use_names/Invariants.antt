use Rattle.std.proofs.Common.{◌≡◌, ◌++◌, drop, map}
use Rattle.sp_spec.specs.Same.{same_term}
use Rattle.sp_fact.specs.GroundView.{ground_of}
use Rattle.sp_log.specs.Checking.{are_new}
use Rattle.sp_log.proofs.names.use_names.Given as goal

abbrev pub invariant-loop-name : goal.invariant-loop-name
invariant-loop-name l =
    (are_new same_term (map ground_of l.fn.used.items) (map ground_of l.names.items)
    ≡ are_new same_term (map ground_of l.used.items) (map ground_of (drop l.name-index l.name-items)))
    × (map ground_of l.used.items ++ map ground_of (drop l.name-index l.name-items) ≡ map ground_of l.fn.used.items ++ map ground_of l.names.items)
