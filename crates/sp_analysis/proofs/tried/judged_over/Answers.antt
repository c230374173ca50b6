use Rattle.std.proofs.Common.{ap₂, ◌∙◌}
use Rattle.sp_spec_system.specs.System.{System}
use Rattle.sp_spec_system.specs.Move.{Context}
use Rattle.sp_check.specs.Judging.{judgement}
use Rattle.sp_check.specs.View.{skeleton_of}
use Rattle.sp_analysis.proofs.tried.judged_over.Goals as goal

pub returns : goal.returns
returns c = c.in_ok-judgement.ensures ∙ ap₂ (λ (x : Context) (y : System). judgement x y (skeleton_of c.args.tree.now)) c.context_of-context.ensures c.in_ok-system.ensures
