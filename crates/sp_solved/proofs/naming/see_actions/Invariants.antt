use Rattle.std.proofs.Common.{◌≡◌, map, drop}
use Rattle.sp_term.specs.View.{variable_of}
use Rattle.sp_fact.specs.View.{action_of}
use Rattle.sp_spec_solved.specs.Naming.{once_after, in_actions}
use Rattle.sp_solved.proofs.naming.see_actions.Given as goal

abbrev pub invariant-loop-action : goal.invariant-loop-action
invariant-loop-action l =
    once_after (map variable_of l.seen.items) (in_actions (map action_of (drop l.action-index l.actions.items)))
    ≡ once_after (map variable_of l.fn.seen.items) (in_actions (map action_of l.actions.items))
