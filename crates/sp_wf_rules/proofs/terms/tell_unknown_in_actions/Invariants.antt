use Rattle.std.proofs.Common.{◌≡◌, drop, map}
use Rattle.sp_read_parts.specs.Views as parts
use Rattle.sp_wf_rules.specs.RuleFindings as spec
use Rattle.sp_finding.specs.Finding.{lines_after}
use Rattle.sp_finding.specs.KnownView.{symbols_of}
use Rattle.sp_lines.specs.TextsView.{texts_of}
use Rattle.sp_wf_rules.proofs.terms.tell_unknown_in_actions.Given as goal

abbrev pub invariant-loop-action : goal.invariant-loop-action
invariant-loop-action l =
    lines_after (texts_of l.lines) (spec.unknown_in_actions (symbols_of l.symbols) (map parts.action_of (drop l.action-index l.actions.items)))
    ≡ lines_after (texts_of l.fn.lines) (spec.unknown_in_actions (symbols_of l.symbols) (map parts.action_of l.actions.items))
