use Rattle.std.proofs.Common.{sym, ◌∙◌, map, arith}
use Rattle.sp_fact.specs.View.{action_of}
use Rattle.sp_fact.specs.GroundView.{ground_action}
use Rattle.sp_norm.specs.Bounds.{bounds}
use Rattle.sp_log.proofs.Uneven.{uneven_matched_actions}
use Rattle.sp_spec.proofs.Lists.{length_map}
use Rattle.sp_log.proofs.instance.extend_actions.Goals as goal

pub returns-then-len : goal.returns-then-len
returns-then-len c =
    let ps = c.args.patterns.now in
    let fs = c.args.actions.now in
    sym
    (uneven_matched_actions (map action_of ps.items) (map ground_action fs.items) (bounds c.args.found.now)
    (λ e.
    let same_length = sym (length_map action_of ps.items) ∙ e ∙ length_map ground_action fs.items in
    absurd (omega (arith, same_length, c.if-len.true, c.len.ensures, c.len-2.ensures, ps.ok.0, fs.ok.0))))
