use Rattle.std.proofs.Common.{◌≡◌, drop}
use Rattle.std.specs.List.{flat_map}
use Rattle.sp_written.specs.Views as view
use Rattle.sp_spec.specs.Constants.{once_after}
use Rattle.sp_warn.specs.Constants.{in_item, constants_in}
use Rattle.sp_lines.specs.TextsView.{texts_of}
use Rattle.sp_warn.proofs.constants.constants_in.Given as goal

abbrev pub invariant-loop-item : goal.invariant-loop-item
invariant-loop-item l = once_after (texts_of l.seen) (flat_map in_item (view.items (drop l.item-index l.items.items))) ≡ constants_in (view.items l.items.items)
