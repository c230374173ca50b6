use Rattle.std.proofs.Common.{◌≡◌, map, drop}
use Rattle.sp_read_parts.specs.Views.{action_of}
use Rattle.sp_spec.specs.Constants.{once_after, in_actions}
use Rattle.sp_lines.specs.TextsView.{texts_of}
use Rattle.sp_warn.proofs.constants.see_actions.Given as goal

abbrev pub invariant-loop-action : goal.invariant-loop-action
invariant-loop-action l = once_after (texts_of l.seen) (in_actions (map action_of (drop l.action-index l.actions.items))) ≡ once_after (texts_of l.fn.seen) (in_actions (map action_of l.actions.items))
