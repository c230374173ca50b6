use Rattle.std.proofs.Common.{◌≡◌, drop, map}
use Rattle.sp_term.specs.View.{name_of}
use Rattle.sp_wf_symbols.specs.SymbolFindings as spec
use Rattle.sp_finding.specs.Finding.{lines_after}
use Rattle.sp_lines.specs.TextsView.{texts_of}
use Rattle.sp_wf_symbols.proofs.symbols.tell_names_left_out.Given as goal

abbrev pub invariant-loop-name : goal.invariant-loop-name
invariant-loop-name l =
    lines_after (texts_of l.lines) (spec.left_out (map name_of (drop l.name-index l.name-items)))
    ≡ lines_after (texts_of l.fn.lines) (spec.left_out (map name_of l.names.items))
