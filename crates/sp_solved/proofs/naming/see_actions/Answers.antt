use Rattle.std.proofs.Common.{map, refl}
use Rattle.sp_term.specs.View.{variable_of}
use Rattle.sp_fact.specs.View.{action_of}
use Rattle.sp_spec_solved.specs.Naming.{once_after, in_terms, in_actions}
use Rattle.sp_solved.proofs.Stepping.{next}
use Rattle.sp_solved.proofs.naming.see_actions.Goals as goal

pub loop-action-preserved : goal.loop-action-preserved
loop-action-preserved c =
    next (λ f. in_terms (action_of f).args) (λ fs. in_actions (map action_of fs)) (λ f fs. refl) c.deref-action-items.result.now c.args.actions.now.items c.loop-action.action-index c.action-item.result
    (map variable_of c.loop-action.seen.items) (map variable_of c.see_terms.new.seen.items) (once_after (map variable_of c.args.seen.now.items) (in_actions (map action_of c.args.actions.now.items)))
    c.deref-action-items.ensures.value c.loop-action-test.true c.action-item.is c.in_ok-see_terms.ensures c.loop-action.invariant
