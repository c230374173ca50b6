use Rattle.std.proofs.Common.{◌≡◌, ◌++◌, drop, map}
use Rattle.sp_spec.specs.Execution.{known_all}
use Rattle.sp_fact.specs.GroundView.{ground_fact, grounds_of}
use Rattle.sp_exec.proofs.instance.all_known.Given as goal

abbrev pub invariant-loop-term : goal.invariant-loop-term
invariant-loop-term l = map ground_fact l.made.items ++ known_all (grounds_of (drop l.term-index l.term-items)) ≡ known_all (grounds_of l.terms.items)
