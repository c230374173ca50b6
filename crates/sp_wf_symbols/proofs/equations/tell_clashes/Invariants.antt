use Rattle.std.proofs.Common.{◌≡◌, drop, map}
use Rattle.sp_wf_symbols.specs.EquationFindings as spec
use Rattle.sp_finding.specs.Finding.{lines_after}
use Rattle.sp_lines.specs.TextsView.{texts_of}
use Rattle.sp_declared.specs.NumberedView.{numbered_of}
use Rattle.sp_wf_symbols.proofs.equations.tell_clashes.Given as goal

abbrev pub invariant-loop-place : goal.invariant-loop-place
invariant-loop-place l =
    lines_after (texts_of l.lines) (spec.clashes (map numbered_of (drop l.place l.numbered.items)))
    ≡ lines_after (texts_of l.fn.lines) (spec.clashes (map numbered_of l.numbered.items))
