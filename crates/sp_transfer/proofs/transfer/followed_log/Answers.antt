use Rattle.std.proofs.Common.{◌∙◌, List, map, ap, ap₂}
use Rattle.sp_spec.specs.Log.{Log}
use Rattle.sp_fact.specs.declared.step.Step.{Step}
use Rattle.sp_fact.specs.GroundView.{signature_of, step_of}
use Rattle.sp_fact.specs.View.{rule_of}
use Rattle.sp_transfer.specs.Construction.{Given, at_start}
use Rattle.sp_transfer.specs.Sourced.{given_of}
use Rattle.sp_transfer.specs.Steps.{followed_on}
use Rattle.sp_transfer.specs.View.{log_in}
use Rattle.sp_transfer.proofs.Steps.{from_start}
use Rattle.sp_transfer.proofs.transfer.followed_log.Goals as goal

pub loop-step-init : goal.loop-step-init
loop-step-init c =
    let signature = signature_of c.args.signature.now in
    let rules = map rule_of c.args.rules.now.items in
    let facts = ap (map given_of) c.new.ensures.items in
    let log = ap log_in c.new-2.ensures.items in
    let steps = c.deref-step-items.ensures.value in
    ap₂ (λ (fs : List Given) (g : Log). followed_on signature rules (map step_of c.deref-step-items.result.now) (record { facts = fs; log = g })) facts log
    ∙ ap (λ (xs : List Step). followed_on signature rules (map step_of xs) at_start) steps
    ∙ from_start signature rules (map step_of c.args.steps.now.items)
