use Rattle.std.proofs.Common.{◌≡◌, take, map}
use Rattle.sp_law_equal.specs.Normal.{normal_fact}
use Rattle.sp_fact.specs.GroundView.{equation_of, ground_fact}
use Rattle.sp_norm.proofs.normal.each_normal_fact.Given as goal

abbrev pub invariant-loop-fact : goal.invariant-loop-fact
invariant-loop-fact l = map ground_fact l.made.items ≡ map (normal_fact (map equation_of l.equations.items)) (map ground_fact (take l.fact-index l.fact-items))
