use Rattle.std.proofs.Common.{◌≡◌, drop}
use Rattle.sp_written.specs.Views as view
use Rattle.sp_finding.specs.Finding.{lines_after}
use Rattle.sp_lines.specs.TextsView.{texts_of}
use Rattle.sp_wf.specs.ItemFindings.{on_items, learning_in_item}
use Rattle.sp_wf.proofs.attributes.tell_all_learning.Given as goal

abbrev pub invariant-loop-item : goal.invariant-loop-item
invariant-loop-item l =
    lines_after (texts_of l.lines) (on_items learning_in_item (view.items (drop l.item-index l.items.items))) ≡ lines_after (texts_of l.fn.lines) (on_items learning_in_item (view.items l.items.items))
