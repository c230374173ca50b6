use Rattle.std.proofs.Common.{◌≡◌, drop}
use Rattle.sp_spec_text.specs.Written.{functions_in}
use Rattle.sp_wf_symbols.specs.FirstsView.{symbols_of}
use Rattle.sp_wf_symbols.specs.SymbolFindings.{declared_otherwise}
use Rattle.sp_written.specs.Views as view
use Rattle.sp_finding.specs.Finding.{lines_after}
use Rattle.sp_lines.specs.TextsView.{texts_of}
use Rattle.sp_wf_symbols.proofs.symbols.tell_all_functions.Given as goal

abbrev pub invariant-loop-item : goal.invariant-loop-item
invariant-loop-item l =
    lines_after (texts_of l.lines) (declared_otherwise (symbols_of l.symbols) (functions_in (view.items (drop l.item-index l.items.items))))
    ≡ lines_after (texts_of l.fn.lines) (declared_otherwise (symbols_of l.symbols) (functions_in (view.items l.items.items)))
