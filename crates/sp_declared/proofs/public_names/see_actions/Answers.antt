use Rattle.sp_term.specs.View.{name_of}
use Rattle.std.proofs.Common.{map, refl}
use Rattle.sp_read_parts.specs.Views.{action_of}
use Rattle.sp_spec.specs.Constants.{once_after, in_terms, in_actions}
use Rattle.sp_declared.proofs.ConstantSteps.{next}
use Rattle.sp_declared.proofs.public_names.see_actions.Goals as goal

pub loop-action-preserved : goal.loop-action-preserved
loop-action-preserved c =
    next (λ a. in_terms (action_of a).args) (λ xs. in_actions (map action_of xs)) (λ a xs. refl) c.deref-action-items.result.now c.args.actions.now.items c.loop-action.action-index c.action-item.result
    (map name_of c.loop-action.seen.items) (map name_of c.see_terms.new.seen.items) (once_after (map name_of c.args.seen.now.items) (in_actions (map action_of c.args.actions.now.items)))
    c.deref-action-items.ensures.value c.loop-action-test.true c.action-item.is c.in_ok-see_terms.ensures c.loop-action.invariant
