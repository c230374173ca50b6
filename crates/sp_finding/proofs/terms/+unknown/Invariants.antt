use Rattle.std.proofs.Common.{◌≡◌, drop}
use Rattle.sp_read_parts.specs.Views as parts
use Rattle.sp_finding.specs.TermFindings as spec
use Rattle.sp_finding.specs.KnownView.{symbols_of}
use Rattle.sp_finding.specs.Finding.{lines_after}
use Rattle.sp_lines.specs.TextsView.{texts_of}
use Rattle.sp_finding.proofs.terms.+unknown.Given as goal

abbrev pub invariant-tell_unknown_in_all-loop-term : goal.invariant-tell_unknown_in_all-loop-term
invariant-tell_unknown_in_all-loop-term l =
    lines_after (texts_of l.lines) (spec.unknown_in_all (symbols_of l.symbols) (parts.terms (drop l.term-index l.terms.items)))
    ≡ lines_after (texts_of l.fn.lines) (spec.unknown_in_all (symbols_of l.symbols) (parts.terms l.terms.items))
