use Rattle.std.proofs.Common.{◌≡◌, drop, map}
use Rattle.sp_spec.specs.Lists.{newest_first}
use Rattle.sp_fact.specs.GroundView.{signature_of, step_of}
use Rattle.sp_fact.specs.View.{rule_of}
use Rattle.sp_transfer.specs.Construction.{followed}
use Rattle.sp_transfer.specs.Steps.{followed_of, followed_on}
use Rattle.sp_transfer.proofs.transfer.followed_log.Given as goal

abbrev pub invariant-loop-step : goal.invariant-loop-step
invariant-loop-step l =
    followed_on (signature_of l.signature) (map rule_of l.rules.items) (map step_of (drop l.step-index l.step-items)) (followed_of l.state)
    ≡ followed (signature_of l.signature) (map rule_of l.rules.items) (newest_first (map step_of l.steps.items))
