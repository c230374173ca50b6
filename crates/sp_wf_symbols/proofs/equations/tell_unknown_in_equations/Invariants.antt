use Rattle.std.proofs.Common.{◌≡◌, drop, map}
use Rattle.sp_written.specs.Views as view
use Rattle.sp_wf_symbols.specs.SymbolFindings as spec
use Rattle.sp_finding.specs.Finding.{lines_after}
use Rattle.sp_finding.specs.KnownView.{symbols_of}
use Rattle.sp_lines.specs.TextsView.{texts_of}
use Rattle.sp_wf_symbols.proofs.equations.tell_unknown_in_equations.Given as goal

abbrev pub invariant-loop-equation : goal.invariant-loop-equation
invariant-loop-equation l =
    lines_after (texts_of l.lines) (spec.unknown_in_equations (symbols_of l.symbols) (map view.equation (drop l.equation-index l.equations.items)))
    ≡ lines_after (texts_of l.fn.lines) (spec.unknown_in_equations (symbols_of l.symbols) (map view.equation l.equations.items))
