use Rattle.std.proofs.Common.{map}
use Rattle.sp_spec.specs.Lists.{newest_first}
use Rattle.sp_fact.specs.GroundView.{signature_of, step_of}
use Rattle.sp_book.specs.View.{rule_forms_of}
use Rattle.sp_learn.specs.View.{log_of}
use Rattle.sp_transfer.proofs.Executing.{is_executed}
use Rattle.sp_transfer.proofs.execution.to_execution.Goals as goal

pub returns-clause-means : goal.returns-clause-means
returns-clause-means c = λ theory good rules_same signature_same is_log.
    is_executed theory good (signature_of c.args.signature.now) (map rule_forms_of c.args.rules.now.rules.items) rules_same signature_same
    (log_of c.args.log.now) is_log (newest_first (map step_of c.in_ok-steps.steps.items)) c.in_ok-steps.ensures
