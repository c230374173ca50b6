use Rattle.std.proofs.Common.{◌≡◌, drop}
use Rattle.std.specs.List.{flat_map}
use Rattle.sp_written.specs.Views as view
use Rattle.sp_lines.specs.TextsView.{texts_of}
use Rattle.sp_warn.specs.Told.{lines_after}
use Rattle.sp_warn.specs.Warnings.{induction_of_item}
use Rattle.sp_warn.proofs.induction.tell_induction.Given as goal

abbrev pub invariant-loop-item : goal.invariant-loop-item
invariant-loop-item l =
    lines_after (texts_of l.lines) (flat_map induction_of_item (view.items (drop l.item-index l.items.items))) ≡ lines_after (texts_of l.fn.lines) (flat_map induction_of_item (view.items l.items.items))
