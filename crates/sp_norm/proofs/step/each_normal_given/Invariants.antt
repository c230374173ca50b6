use Rattle.std.proofs.Common.{◌≡◌, take, map}
use Rattle.sp_fact.specs.GroundView.{equation_of, given_of}
use Rattle.sp_law_run.specs.NormalStep.{normal_given}
use Rattle.sp_norm.proofs.step.each_normal_given.Given as goal

abbrev pub invariant-loop-one : goal.invariant-loop-one
invariant-loop-one l = map given_of l.made.items ≡ normal_given (map equation_of l.equations.items) (map given_of (take l.one-index l.one-items))
