use Rattle.std.proofs.Common.{sym, ap, ◌∙◌}
use Rattle.sp_pose.specs.Asked.{asked_then}
use Rattle.sp_pose.proofs.Items.{last_asked}
use Rattle.sp_pose.proofs.problem.guarded_lemmas.Goals as goal

pub loop-lemma-preserved : goal.loop-lemma-preserved
loop-lemma-preserved c = c.in_ok-guarded.ensures ∙ ap (λ others. asked_then others c.in-Some.lemma) c.loop-lemma.invariant ∙ sym (last_asked c.loop-lemma.yielded c.in-Some.lemma)
