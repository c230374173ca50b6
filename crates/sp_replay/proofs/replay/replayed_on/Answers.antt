use Rattle.std.proofs.Common.{ap, ◌∙◌}
use Rattle.std.proofs.lemmas.List.{take_rest}
use Rattle.sp_replay.specs.Replay as spec
use Rattle.sp_replay.proofs.Rules.{have_names, have_normal_forms}
use Rattle.sp_replay.proofs.Replied.{posed_right, stopped_step, done_steps}
use Rattle.sp_replay.proofs.replay.replayed_on.Goals as goal

pub read_steps-requires : goal.read_steps-requires
read_steps-requires c = record { named = have_names c.args.problem c.requires }

pub replay-requires-clause-right : goal.replay-requires-clause-right
replay-requires-clause-right c = posed_right c.args.problem c.requires

pub replay-requires-clause-normal_forms : goal.replay-requires-clause-normal_forms
replay-requires-clause-normal_forms c = have_normal_forms c.args.problem c.requires

pub returns-in-Refused : goal.returns-in-Refused
returns-in-Refused c =
    let behind = c.behind_line-lines.ensures ∙ ap spec.behind_line (take_rest c.args.text.now c.args.problem.behind_end) in
    let read = rw c.in-Steps.is at c.in_ok-number.ensures in
    stopped_step c.args.problem c.requires c.behind_line-lines.result.now behind
    c.in-Steps.steps.items read c.in-Refused.number c.in-Refused.cause (λ theory rules signature. rw c.in-Refused.is at c.in_ok-number-2.ensures theory rules signature)

pub returns : goal.returns
returns c =
    let behind = c.behind_line-lines.ensures ∙ ap spec.behind_line (take_rest c.args.text.now c.args.problem.behind_end) in
    let read = rw c.in-Steps.is at c.in_ok-number.ensures in
    done_steps c.args.problem c.requires c.behind_line-lines.result.now behind
    c.in-Steps.steps.items read c.in-Done.trace c.in_ok-written-in-Done.written.items (λ theory rules signature. rw c.in-Done.is at c.in_ok-number-2.ensures theory rules signature) c.in_ok-written-in-Done.ensures
