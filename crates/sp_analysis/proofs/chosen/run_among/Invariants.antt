use Rattle.std.proofs.Common.{◌≡◌, map, option_map}
use Rattle.sp_pose.specs.Asked.{asked_of}
use Rattle.sp_analysis.specs.Printed.{asked_run}
use Rattle.sp_analysis.proofs.chosen.run_among.Given as goal

abbrev pub invariant-loop-lemma : goal.invariant-loop-lemma
invariant-loop-lemma l = map asked_of l.run.items ≡ asked_run (option_map (λ s. s.now) l.chosen) (map asked_of l.yielded)
