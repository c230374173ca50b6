use Rattle.std.proofs.Common.{sym, ◌∙◌}
use Rattle.std.proofs.lemmas.Result.{IfOk-weaker}
use Rattle.sp_system.specs.SystemView.{system_of}
use Rattle.sp_step.specs.View.{rules_of}
use Rattle.sp_step.proofs.Kept.{not_reducible}
use Rattle.sp_step.proofs.simplify.turn.Goals as goal

pub returns-clause-keeps : goal.returns-clause-keeps
returns-clause-keeps c =
    let clean = not_reducible (rules_of c.args.rules.now) (system_of c.args.system.now) (sym c.in_ok-is_contradictory_where.ensures ∙ c.if-branch.false) in
    IfOk-weaker c.by_rows.result _ _ (λ o keeps kept. keeps kept clean) c.by_rows.ensures.keeps
