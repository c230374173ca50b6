use Rattle.std.proofs.Common.{◌≡◌, take, map}
use Rattle.sp_law_equal.specs.Normal.{normal}
use Rattle.sp_fact.specs.GroundView.{equation_of, ground_of}
use Rattle.sp_norm.proofs.normal.+normal.Given as goal

abbrev pub invariant-normal_all-loop-term : goal.invariant-normal_all-loop-term
invariant-normal_all-loop-term l = map ground_of l.made.items ≡ map (λ t. normal (map equation_of l.equations.items) (ground_of t)) (take l.term-index l.term-items)
