use Rattle.std.proofs.Common.{◌≡◌, drop, map}
use Rattle.sp_read_parts.specs.Views.{action_of}
use Rattle.sp_wf_rules.specs.RuleFindings.{wide_actions}
use Rattle.sp_finding.specs.Finding.{lines_after}
use Rattle.sp_lines.specs.TextsView.{texts_of}
use Rattle.sp_wf_rules.proofs.facts.tell_wide_actions.Given as goal

abbrev pub invariant-loop-action : goal.invariant-loop-action
invariant-loop-action l =
    lines_after (texts_of l.lines) (wide_actions (map action_of (drop l.action-index l.actions.items))) ≡ lines_after (texts_of l.fn.lines) (wide_actions (map action_of l.actions.items))
