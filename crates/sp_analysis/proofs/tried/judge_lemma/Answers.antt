use Rattle.std.proofs.Common.{map, string_bytes, ap, subst, ◌∙◌}
use Rattle.sp_check.specs.View.{judgement_of}
use Rattle.sp_pose.specs.Asked as ask
use Rattle.sp_analysis.specs.Found.{block_by, IsNumberedBy}
use Rattle.sp_analysis.specs.Sought.{executed, given}
use Rattle.sp_analysis.specs.Printed.{judged_log}
use Rattle.sp_analysis.specs.View.{setting_in, taken_of, verdict_of}
use Rattle.sp_analysis.proofs.Outcomes.{judged_printed}
use Rattle.sp_analysis.proofs.tried.judge_lemma.Goals as goal

pub returns-clause-printed : goal.returns-clause-printed
returns-clause-printed c =
    let setting = setting_in c.args.setting.now in
    judged_printed setting (map taken_of c.args.taken.now.items) (ask.asked_of c.args.lemma.now) (judgement_of c.in_ok-judgement.judgement) c.in_ok-judgement.ensures.judgement
    (verdict_of c.by_judgement-verdict.result) c.in_ok-judgement.steps (string_bytes c.new-proof.result) (string_bytes c.in_ok-block.block) (string_bytes c.new-graph.result)
    c.by_judgement-verdict.ensures c.in_ok-judgement.ensures.steps c.new-proof.ensures.bytes (c.in_ok-block.ensures.text ∙ ap (block_by (executed setting) (given setting) c.args.lemma.now.marked) c.judged_log.ensures) c.new-graph.ensures.bytes

pub returns-clause-nameable : goal.returns-clause-nameable
returns-clause-nameable c = subst (IsNumberedBy (executed (setting_in c.args.setting.now)) (given (setting_in c.args.setting.now)) c.args.lemma.now.marked) (c.judged_log.ensures ∙ ap judged_log c.in_ok-judgement.ensures.judgement) c.in_ok-block.ensures.numbered
