use Rattle.std.proofs.Common.{◌≡◌, ◌<◌, ◌≤◌, ◌∙◌, List, length, get_or, map, sym, ap, subst}
use Rattle.sp_law_run.specs.NormalStep.{normal_step}
use Rattle.sp_fact.specs.declared.step.Step.{Step}
use Rattle.sp_fact.specs.GroundView.{signature_of, step_of}
use Rattle.sp_fact.specs.View.{rule_of}
use Rattle.sp_exec.specs.View.{cause_of, outcome_of, reached_by}
use Rattle.sp_exec.proofs.Reached.{goes_on, is_refused, is_done}
use Rattle.sp_exec.proofs.replay.replay.Goals as goal

pub returns-in-Some : goal.returns-in-Some
returns-in-Some c =
    let same = c.deref-step-items.ensures.value in
    let l = subst (λ (xs : List Step). c.loop-place.place < length xs) same c.loop-place-test.true in
    let e = subst (λ (xs : List Step). c.step-item.result ≡ get_or xs c.loop-place.place c.step-item.result) same c.step-item.is in
    is_refused (signature_of c.args.signature.now) (map rule_of c.args.rules.now.items) c.requires.normal_forms c.requires.right
    step_of (normal_step (signature_of c.args.signature.now).equations) c.args.steps.now.items c.loop-place.place c.step-item.result l e
    (reached_by c.loop-place.machine) (cause_of c.in-Some.cause) c.loop-place.invariant
    (sym c.in_ok-cause.ensures ∙ ap (λ o. outcome_of o c.next_in_normal_form.new.self) c.in-Some.is)

pub loop-place-preserved : goal.loop-place-preserved
loop-place-preserved c =
    let same = c.deref-step-items.ensures.value in
    let l = subst (λ (xs : List Step). c.loop-place.place < length xs) same c.loop-place-test.true in
    let e = subst (λ (xs : List Step). c.step-item.result ≡ get_or xs c.loop-place.place c.step-item.result) same c.step-item.is in
    goes_on (signature_of c.args.signature.now) (map rule_of c.args.rules.now.items) c.requires.normal_forms c.requires.right
    step_of (normal_step (signature_of c.args.signature.now).equations) c.args.steps.now.items c.loop-place.place c.step-item.result l e
    (reached_by c.loop-place.machine) (reached_by c.next_in_normal_form.new.self) c.loop-place.invariant
    (sym c.in_ok-cause.ensures ∙ ap (λ o. outcome_of o c.next_in_normal_form.new.self) c.in_default.is)

pub returns : goal.returns
returns c =
    let same = c.deref-step-items.ensures.value in
    let l = subst (λ (xs : List Step). length xs ≤ c.loop-place.place) same c.loop-place-test.false in
    is_done (signature_of c.args.signature.now) (map rule_of c.args.rules.now.items) c.requires.normal_forms c.requires.right
    step_of (normal_step (signature_of c.args.signature.now).equations) c.args.steps.now.items c.loop-place.place l
    (reached_by c.loop-place.machine) c.loop-place.invariant
