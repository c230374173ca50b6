use Rattle.std.proofs.Common.{◌≡◌, ◌++◌, map}
use Rattle.std.specs.Slice.Iter.{iter_rest}
use Rattle.sp_law_log_steps.specs.Found as spec
use Rattle.sp_fact.specs.GroundView.{given_of, grounds_of}
use Rattle.sp_fact.specs.View.{declared_of}
use Rattle.sp_log.proofs.execution.given_to.Given as goal

abbrev pub invariant-loop-declared : goal.invariant-loop-declared
invariant-loop-declared l =
    map given_of l.given.items ++ spec.given_to (map declared_of (iter_rest l.declared-iterator.a)) (grounds_of (iter_rest l.declared-iterator.b))
    ≡ spec.given_to (map declared_of l.variables.items) (grounds_of l.values.items)
