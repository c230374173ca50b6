use Rattle.std.proofs.Common.{◌≡◌, drop, map}
use Rattle.sp_fact.specs.GroundView.{symbol_of}
use Rattle.sp_wf_symbols.specs.FirstsView.{symbols_of}
use Rattle.sp_wf_symbols.specs.SymbolFindings as spec
use Rattle.sp_finding.specs.Finding.{lines_after}
use Rattle.sp_lines.specs.TextsView.{texts_of}
use Rattle.sp_wf_symbols.proofs.symbols.tell_otherwise.Given as goal

abbrev pub invariant-loop-symbol : goal.invariant-loop-symbol
invariant-loop-symbol l =
    lines_after (texts_of l.lines) (spec.declared_otherwise (symbols_of l.symbols) (map symbol_of (drop l.symbol-index l.symbol-items)))
    ≡ lines_after (texts_of l.fn.lines) (spec.declared_otherwise (symbols_of l.symbols) (map symbol_of l.declared.items))
