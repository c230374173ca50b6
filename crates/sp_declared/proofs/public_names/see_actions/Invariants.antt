use Rattle.std.proofs.Common.{◌≡◌, map, drop}
use Rattle.sp_term.specs.View.{name_of}
use Rattle.sp_read_parts.specs.Views.{action_of}
use Rattle.sp_spec.specs.Constants.{once_after, in_actions}
use Rattle.sp_declared.proofs.public_names.see_actions.Given as goal

abbrev pub invariant-loop-action : goal.invariant-loop-action
invariant-loop-action l =
    once_after (map name_of l.seen.items) (in_actions (map action_of (drop l.action-index l.actions.items)))
    ≡ once_after (map name_of l.fn.seen.items) (in_actions (map action_of l.actions.items))
