use Rattle.std.proofs.Common.{◌≡◌, ◌++◌, map, vec_len}
use Rattle.sp_step.specs.View.{case_of}
use Rattle.sp_spec_system.specs.Move.{systems_in}
use Rattle.sp_check.specs.View.{systems_of}
use Rattle.sp_check.proofs.judging.push_systems.Given as goal

abbrev pub invariant-loop-case : goal.invariant-loop-case
invariant-loop-case l =
    systems_in (map case_of l.fn.cases.items) ++ systems_of l.initial.awaited.items ≡ systems_in (map case_of l.cases.items) ++ systems_of l.awaited.items

abbrev pub decreases-loop-case : goal.decreases-loop-case
decreases-loop-case l = vec_len l.cases
