use Rattle.std.proofs.Common.{◌≡◌, drop}
use Rattle.sp_declared.specs.View as declared
use Rattle.sp_warn.specs.Constants.{alike_before}
use Rattle.sp_lines.specs.TextsView.{texts_of}
use Rattle.sp_warn.specs.Told.{lines_after}
use Rattle.sp_warn.proofs.alike.tell_alike_to.Given as goal

abbrev pub invariant-loop-other : goal.invariant-loop-other
invariant-loop-other l =
    lines_after (texts_of l.lines) (alike_before (declared.texts_of (drop l.other-index l.earlier.items)) l.constant)
    ≡ lines_after (texts_of l.fn.lines) (alike_before (declared.texts_of l.earlier.items) l.constant)
