use Rattle.std.proofs.Common.{◌≡◌, drop, map}
use Rattle.sp_wf_symbols.specs.EquationFindings as spec
use Rattle.sp_finding.specs.Finding.{lines_after}
use Rattle.sp_lines.specs.TextsView.{texts_of}
use Rattle.sp_declared.specs.NumberedView.{numbered_of}
use Rattle.sp_wf_symbols.proofs.equations.tell_clashes_with.Given as goal

abbrev pub invariant-loop-other : goal.invariant-loop-other
invariant-loop-other l =
    lines_after (texts_of l.lines) (spec.clashes_with (numbered_of l.first) (map numbered_of (drop l.other-index l.others)))
    ≡ lines_after (texts_of l.fn.lines) (spec.clashes_with (numbered_of l.first) (map numbered_of l.others))
