use Rattle.std.proofs.Common.{ap, ◌∙◌}
use Rattle.sp_spec_system.specs.Move.{Root, root_system}
use Rattle.sp_check.specs.Judging.{judgement}
use Rattle.sp_check.specs.View.{skeleton_of}
use Rattle.sp_analysis.specs.Sought.{context_of}
use Rattle.sp_analysis.specs.View.{setting_in}
use Rattle.sp_analysis.proofs.tried.judged_with.Goals as goal

pub returns : goal.returns
returns c =
    c.in_ok-judgement.ensures
    ∙ ap (λ (r : Root). judgement (context_of (setting_in c.args.setting.now) r) (root_system r) (skeleton_of c.args.tree.now)) (c.root-root.ensures ∙ c.in_ok-beginning.ensures)
