use Rattle.std.proofs.Common.{◌≡◌, ℕ, List, [], map, drop}
use Rattle.std.specs.Prelude.{string_bytes}
use Rattle.sp_warn.specs.Constants.{alike_among}
use Rattle.sp_warn.specs.Groups.{Grouped}
use Rattle.sp_lines.specs.TextsView.{texts_of}
use Rattle.sp_warn.specs.Told.{lines_after}
use Rattle.sp_warn.proofs.alike.tell_alike.Given as goal

abbrev pub invariant-loop-constant : goal.invariant-loop-constant
invariant-loop-constant l =
    (before : List (List ℕ)) × Grouped l.groups before
    × (lines_after (texts_of l.lines) (alike_among before (map string_bytes (drop l.constant-index l.constants.items))) ≡ lines_after (texts_of l.fn.lines) (alike_among [] (map string_bytes l.constants.items)))
