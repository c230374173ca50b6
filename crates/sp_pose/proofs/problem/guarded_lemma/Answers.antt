use Rattle.std.proofs.Common.{option_map, ap, ◌∙◌}
use Rattle.sp_spec.specs.Guarded.{Guarded}
use Rattle.sp_pose.specs.Asked.{asked_with}
use Rattle.sp_pose.proofs.problem.guarded_lemma.Goals as goal

pub returns : goal.returns
returns c = c.with_form.ensures ∙ ap (option_map (λ (g : Guarded). asked_with c.args.lemma g)) c.in_ok-form.ensures
