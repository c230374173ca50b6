use Rattle.std.proofs.Common.{◌≡◌, drop, map}
use Rattle.sp_fact.specs.GroundView.{symbol_of, equation_of}
use Rattle.sp_wf_symbols.specs.EquationFindings as spec
use Rattle.sp_finding.specs.Finding.{lines_after}
use Rattle.sp_lines.specs.TextsView.{texts_of}
use Rattle.sp_declared.specs.NumberedView.{numbered_of}
use Rattle.sp_wf_symbols.proofs.equations.tell_private_constants.Given as goal

abbrev pub invariant-loop-one : goal.invariant-loop-one
invariant-loop-one l =
    lines_after (texts_of l.lines) (spec.private_constants (map symbol_of l.symbols.items) (map equation_of l.equations.items) (map numbered_of (drop l.one-index l.one-items)))
    ≡ lines_after (texts_of l.fn.lines) (spec.private_constants (map symbol_of l.symbols.items) (map equation_of l.equations.items) (map numbered_of l.numbered.items))
