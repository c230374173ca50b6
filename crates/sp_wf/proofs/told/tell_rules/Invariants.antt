use Rattle.std.proofs.Common.{◌≡◌, drop}
use Rattle.sp_declared.specs.WrittenRules.{rules_written}
use Rattle.sp_written.specs.Views as view
use Rattle.sp_finding.specs.Finding.{lines_after}
use Rattle.sp_lines.specs.TextsView.{texts_of}
use Rattle.sp_wf.specs.ItemFindings.{on_rules}
use Rattle.sp_wf.specs.Told as told
use Rattle.sp_wf.proofs.told.tell_rules.Given as goal

abbrev pub invariant-loop-item : goal.invariant-loop-item
invariant-loop-item l =
    lines_after (texts_of l.lines) (on_rules (told.on_rule l.fault) (rules_written (view.items (drop l.item-index l.items.items))))
    ≡ lines_after (texts_of l.fn.lines) (on_rules (told.on_rule l.fault) (rules_written (view.items l.items.items)))
