use Rattle.std.proofs.Common.{take, map}
use Rattle.sp_law_run.specs.NormalStep.{normal_step}
use Rattle.sp_fact.specs.GroundView.{equation_of, signature_of, step_of}
use Rattle.sp_fact.specs.View.{rule_of}
use Rattle.sp_exec.specs.View.{reached_by}
use Rattle.sp_exec.proofs.Reached.{ReachesEach}
use Rattle.sp_exec.proofs.replay.replay.Given as goal

abbrev pub invariant-loop-place : goal.invariant-loop-place
invariant-loop-place l =
    ReachesEach (signature_of l.signature) (map rule_of l.rules.items)
    (map (normal_step (map equation_of l.signature.equations.items)) (map step_of (take l.place l.steps.items))) (reached_by l.machine)
