use Rattle.std.proofs.Common.{◌≡◌, drop}
use Rattle.std.specs.List.{flat_map}
use Rattle.sp_written.specs.Views as view
use Rattle.sp_warn.specs.FormView.{made_of}
use Rattle.sp_lines.specs.TextsView.{texts_of}
use Rattle.sp_warn.specs.Told.{lines_after}
use Rattle.sp_warn.specs.Warnings.{actions_of_item}
use Rattle.sp_warn.proofs.actions.tell_actions.Given as goal

abbrev pub invariant-loop-item : goal.invariant-loop-item
invariant-loop-item l =
    lines_after (texts_of l.lines) (flat_map (actions_of_item (made_of l.made)) (view.items (drop l.item-index l.items.items))) ≡ lines_after (texts_of l.fn.lines) (flat_map (actions_of_item (made_of l.made)) (view.items l.items.items))
