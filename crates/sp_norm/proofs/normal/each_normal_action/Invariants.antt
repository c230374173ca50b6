use Rattle.std.proofs.Common.{◌≡◌, take, map}
use Rattle.sp_law_equal.specs.Normal.{normal_action}
use Rattle.sp_fact.specs.GroundView.{equation_of, ground_action}
use Rattle.sp_norm.proofs.normal.each_normal_action.Given as goal

abbrev pub invariant-loop-action : goal.invariant-loop-action
invariant-loop-action l = map ground_action l.made.items ≡ map (normal_action (map equation_of l.equations.items)) (map ground_action (take l.action-index l.action-items))
