use Rattle.std.proofs.Common.{◌≡◌, drop, map}
use Rattle.sp_term.specs.View.{name_of}
use Rattle.sp_wf_symbols.specs.FirstsView.{symbols_of}
use Rattle.sp_wf_symbols.specs.Told.{otherwise_named}
use Rattle.sp_finding.specs.Finding.{lines_after}
use Rattle.sp_lines.specs.TextsView.{texts_of}
use Rattle.sp_wf_symbols.proofs.symbols.tell_builtins.Given as goal

abbrev pub invariant-loop-name : goal.invariant-loop-name
invariant-loop-name l =
    lines_after (texts_of l.lines) (otherwise_named (symbols_of l.symbols) (map name_of (drop l.name-index l.names.items)))
    ≡ lines_after (texts_of l.fn.lines) (otherwise_named (symbols_of l.symbols) (map name_of l.names.items))
