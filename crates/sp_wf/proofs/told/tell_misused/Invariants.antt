use Rattle.std.proofs.Common.{◌≡◌, drop, map}
use Rattle.sp_declared.specs.View as declared
use Rattle.sp_finding.specs.Finding.{two_sorts, lines_after}
use Rattle.sp_lines.specs.TextsView.{texts_of}
use Rattle.sp_wf.proofs.told.tell_misused.Given as goal

abbrev pub invariant-loop-name : goal.invariant-loop-name
invariant-loop-name l =
    lines_after (texts_of l.lines) (map (two_sorts l.rule) (declared.texts_of (drop l.name-index l.bound.misused.items)))
    ≡ lines_after (texts_of l.fn.lines) (map (two_sorts l.rule) (declared.texts_of l.bound.misused.items))
