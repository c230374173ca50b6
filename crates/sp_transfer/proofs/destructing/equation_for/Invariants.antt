use Rattle.std.proofs.Common.{◌≡◌, drop, map}
use Rattle.sp_fact.specs.GroundView.{equation_of, ground_of}
use Rattle.sp_law_adversary.specs.Learning as spec
use Rattle.sp_transfer.proofs.destructing.equation_for.Given as goal

abbrev pub invariant-loop-equation : goal.invariant-loop-equation
invariant-loop-equation l =
    spec.equation_for (map equation_of l.equations.items) (ground_of l.message)
    ≡ spec.equation_for (map equation_of (drop l.equation-index l.equation-items)) (ground_of l.message)
