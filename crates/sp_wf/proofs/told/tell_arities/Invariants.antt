use Rattle.std.proofs.Common.{◌≡◌, drop}
use Rattle.sp_written.specs.Views as view
use Rattle.sp_finding.specs.Finding.{lines_after}
use Rattle.sp_wf.specs.ItemFindings.{wide_in_items}
use Rattle.sp_lines.specs.TextsView.{texts_of}
use Rattle.sp_wf.proofs.told.tell_arities.Given as goal

abbrev pub invariant-loop-item : goal.invariant-loop-item
invariant-loop-item l = lines_after (texts_of l.lines) (wide_in_items (view.items (drop l.item-index l.items.items))) ≡ lines_after (texts_of l.fn.lines) (wide_in_items (view.items l.items.items))
