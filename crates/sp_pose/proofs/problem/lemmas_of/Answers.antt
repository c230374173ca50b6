use Rattle.std.proofs.Common.{[], ◌∷◌, ◌++◌, sym, ap, ◌∙◌}
use Rattle.sp_pose.specs.Asked.{lemmas_read}
use Rattle.sp_pose.proofs.Items.{last_read}
use Rattle.sp_pose.proofs.problem.lemmas_of.Goals as goal

pub loop-item-preserved : goal.loop-item-preserved
loop-item-preserved c =
    c.in_ok-push_lemma.ensures ∙ ap (λ ls. ls ++ lemmas_read (c.in-Some.item ∷ [])) c.loop-item.invariant ∙ sym (last_read c.loop-item.yielded c.in-Some.item)
