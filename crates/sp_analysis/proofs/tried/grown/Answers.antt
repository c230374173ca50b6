use Rattle.std.proofs.Common.{ap, ◌∙◌}
use Rattle.sp_analysis.specs.Sought.{proof_tree, grown_log}
use Rattle.sp_analysis.specs.View.{setting_in}
use Rattle.sp_analysis.proofs.tried.grown.Goals as goal

pub returns-clause-tree : goal.returns-clause-tree
returns-clause-tree c = c.in_ok-tree.ensures.tree ∙ ap (proof_tree (setting_in c.args.setting.now) c.args.budget) (c.root-root.ensures ∙ c.in_ok-beginning.ensures)

pub returns-clause-log : goal.returns-clause-log
returns-clause-log c = c.in_ok-tree.ensures.log ∙ ap (grown_log (setting_in c.args.setting.now) c.args.budget) (c.root-root.ensures ∙ c.in_ok-beginning.ensures)
