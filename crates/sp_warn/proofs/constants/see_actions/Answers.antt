use Rattle.std.proofs.Common.{map, refl}
use Rattle.sp_read_parts.specs.Views.{action_of}
use Rattle.sp_spec.specs.Constants.{once_after, in_terms, in_actions}
use Rattle.sp_declared.proofs.ConstantSteps.{next}
use Rattle.sp_lines.specs.TextsView.{texts_of}
use Rattle.sp_warn.proofs.constants.see_actions.Goals as goal

pub loop-action-preserved : goal.loop-action-preserved
loop-action-preserved c =
    next (λ x. in_terms (action_of x).args) (λ xs. in_actions (map action_of xs)) (λ x xs. refl) c.deref-action-items.result.now c.args.actions.now.items c.loop-action.action-index c.action-item.result
    (texts_of c.loop-action.seen) (texts_of c.see_terms.new.seen) (once_after (texts_of c.args.seen.now) (in_actions (map action_of c.args.actions.now.items)))
    c.deref-action-items.ensures.value c.loop-action-test.true c.action-item.is c.in_ok-see_terms.ensures c.loop-action.invariant
