use Rattle.std.proofs.Common.{◌≡◌, map, option_map}
use Rattle.sp_pose.specs.Asked.{asked_of, all_asked}
use Rattle.sp_pose.proofs.problem.guarded_lemmas.Given as goal

abbrev pub invariant-loop-lemma : goal.invariant-loop-lemma
invariant-loop-lemma l = option_map (λ ls. map asked_of ls.items) l.guarded ≡ all_asked l.yielded
