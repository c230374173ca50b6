use Rattle.std.proofs.Common.{◌≡◌, ◌++◌, drop, map}
use Rattle.sp_spec.specs.Execution.{make_fresh}
use Rattle.sp_fact.specs.GroundView.{ground_of, step_of}
use Rattle.sp_log.proofs.execution.make_names.Given as goal

abbrev pub invariant-loop-name : goal.invariant-loop-name
invariant-loop-name l =
    map step_of l.steps.items ++ map make_fresh (map ground_of (drop l.name-index l.name-items))
    ≡ map step_of l.fn.steps.items ++ map make_fresh (map ground_of l.name-items)
