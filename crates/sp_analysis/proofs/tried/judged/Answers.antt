use Rattle.std.proofs.Common.{map, ap, ◌∙◌}
use Rattle.sp_check.specs.Judging.{judgement}
use Rattle.sp_check.specs.Skeleton.{Skeleton, steps}
use Rattle.sp_pose.specs.Asked as ask
use Rattle.sp_spec_text.specs.Numerals.{counted}
use Rattle.sp_spec_system.specs.Move.{root_system}
use Rattle.sp_analysis.specs.Sought.{context_of}
use Rattle.sp_analysis.specs.Printed.{root_for}
use Rattle.sp_analysis.specs.View.{setting_in, taken_of}
use Rattle.sp_analysis.proofs.tried.judged.Goals as goal

pub returns-clause-judgement : goal.returns-clause-judgement
returns-clause-judgement c =
    let setting = setting_in c.args.setting.now in
    let root = root_for setting (map taken_of c.args.taken.now.items) (ask.asked_of c.args.lemma.now) in
    c.in_ok-judgement.ensures ∙ ap (judgement (context_of setting root) (root_system root)) c.in_ok-tree.ensures

pub returns-clause-steps : goal.returns-clause-steps
returns-clause-steps c = c.steps-steps.ensures ∙ ap (λ (k : Skeleton). counted (steps k)) c.in_ok-tree.ensures
