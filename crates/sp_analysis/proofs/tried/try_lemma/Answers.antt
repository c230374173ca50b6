use Rattle.std.proofs.Common.{map, string_bytes, subst, ap, ◌∙◌}
use Rattle.sp_search.specs.Kept.{log_in}
use Rattle.sp_search.specs.View.{kept_of, tree_of}
use Rattle.sp_skel.specs.Places.{HavePlaces}
use Rattle.sp_pose.specs.Asked as ask
use Rattle.sp_analysis.specs.Found.{block_by, IsNumberedBy}
use Rattle.sp_analysis.specs.Sought.{executed, given}
use Rattle.sp_analysis.specs.View.{setting_in, taken_of, verdict_of}
use Rattle.sp_analysis.specs.Printed.{graphing}
use Rattle.sp_analysis.proofs.Outcomes.{grown_printed}
use Rattle.sp_analysis.proofs.tried.try_lemma.Goals as goal

pub returns-clause-printed : goal.returns-clause-printed
returns-clause-printed c =
    let setting = setting_in c.args.setting.now in
    grown_printed (graphing c.args.command) setting c.args.budget (map taken_of c.args.taken.now.items) (ask.asked_of c.args.lemma.now) (tree_of c.in_ok-tree.tree) (log_in (kept_of c.in_ok-tree.tree)) (record { tree_is = c.in_ok-tree.ensures.tree; log_is = c.in_ok-tree.ensures.log })
    (verdict_of c.by_tree-verdict.result) c.steps-steps.result (string_bytes c.in_ok-proof.proof) (string_bytes c.in_ok-block.block) (string_bytes c.in_ok-graph.graph)
    c.by_tree-verdict.ensures c.steps-steps.ensures c.in_ok-proof.ensures.text (c.in_ok-block.ensures.text ∙ ap (block_by (executed setting) (given setting) c.args.lemma.now.marked) c.found_log-log.ensures)
    (c.in_ok-graph.ensures ∙ ap (graphing c.args.command (given setting) c.args.lemma.now.name.now) c.found_log-log.ensures)

pub returns-clause-nameable : goal.returns-clause-nameable
returns-clause-nameable c = (
  subst HavePlaces c.in_ok-tree.ensures.tree c.in_ok-proof.ensures.places,
  subst (IsNumberedBy (executed (setting_in c.args.setting.now)) (given (setting_in c.args.setting.now)) c.args.lemma.now.marked) (c.found_log-log.ensures ∙ c.in_ok-tree.ensures.log) c.in_ok-block.ensures.numbered,
)
