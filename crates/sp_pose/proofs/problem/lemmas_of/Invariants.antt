use Rattle.std.proofs.Common.{◌≡◌}
use Rattle.sp_pose.specs.Asked.{lemmas_read}
use Rattle.sp_pose.proofs.problem.lemmas_of.Given as goal

abbrev pub invariant-loop-item : goal.invariant-loop-item
invariant-loop-item l = l.lemmas.items ≡ lemmas_read l.yielded
