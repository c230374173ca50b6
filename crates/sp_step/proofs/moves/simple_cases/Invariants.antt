use Rattle.std.proofs.Common.{◌≡◌, ◌++◌, map}
use Rattle.std.specs.Vec.Iter.{into_iter_items}
use Rattle.sp_spec_proof.specs.Cases as spec
use Rattle.sp_step.specs.View.{case_of, rules_of}
use Rattle.sp_step.proofs.moves.simple_cases.Given as goal

abbrev pub invariant-loop-case : goal.invariant-loop-case
invariant-loop-case l =
    map case_of l.made.items ++ map (spec.simple_case (rules_of l.rules)) (map case_of (into_iter_items l.case-iterator))
    ≡ map (spec.simple_case (rules_of l.rules)) (map case_of l.fn.cases.items)
