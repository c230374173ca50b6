use Rattle.std.proofs.Common.{◌≡◌, [], drop}
use Rattle.sp_written.specs.Views as view
use Rattle.sp_finding.specs.Finding.{lines_after}
use Rattle.sp_wf.specs.ItemFindings.{repeated}
use Rattle.sp_wf.specs.Told.{is_one_of, all_again}
use Rattle.sp_lines.specs.TextsView.{texts_of}
use Rattle.sp_wf.proofs.names.tell_names.Given as goal

abbrev pub invariant-loop-item : goal.invariant-loop-item
invariant-loop-item l =
    lines_after (texts_of l.lines) (all_again (is_one_of l.rules) (is_one_of l.statements) (view.items (drop l.item-index l.items.items)))
    ≡ lines_after (texts_of l.fn.lines) (repeated [] [] (view.items l.items.items))
