use Rattle.std.proofs.Common.{◌≡◌, drop, map}
use Rattle.sp_law_equal.specs.Normal.{reduced}
use Rattle.sp_fact.specs.GroundView.{equation_of, ground_of}
use Rattle.sp_norm.proofs.normal.reduced.Given as goal

abbrev pub invariant-loop-equation : goal.invariant-loop-equation
invariant-loop-equation l = reduced (map equation_of l.equations.items) (ground_of l.term) ≡ reduced (map equation_of (drop l.equation-index l.equation-items)) (ground_of l.term)
