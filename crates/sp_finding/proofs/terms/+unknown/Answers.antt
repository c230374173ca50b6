use Rattle.std.proofs.Common.{List, refl}
use Rattle.sp_term.specs.declared.term.Term.{Term}
use Rattle.sp_read_parts.specs.declared.written.WrittenVariable.{WrittenVariable}
use Rattle.sp_read_parts.specs.Views as parts
use Rattle.sp_finding.specs.TermFindings.{unknown_in, unknown_in_all}
use Rattle.sp_finding.specs.KnownView.{symbols_of}
use Rattle.sp_finding.specs.Finding.{Finding, lines_after}
use Rattle.sp_lines.specs.TextsView.{texts_of}
use Rattle.sp_finding.proofs.Stepping.{next_part}
use Rattle.sp_finding.proofs.terms.+unknown.Goals as goal

pub tell_unknown_in_all-loop-term-preserved : goal.tell_unknown_in_all-loop-term-preserved
tell_unknown_in_all-loop-term-preserved t c =
    let all : List (Term WrittenVariable) → List Finding = λ xs. unknown_in_all (symbols_of c.args.symbols.now) (parts.terms xs) in
    next_part (λ x. unknown_in (symbols_of c.args.symbols.now) (parts.term x)) all (λ x xs. refl) c.deref-term-items.result.now c.args.terms.now.items c.loop-term.term-index c.term-item.result
    (texts_of c.loop-term.lines) (texts_of c.tell_unknown.new.lines) (lines_after (texts_of c.args.lines.now) (all c.args.terms.now.items))
    c.deref-term-items.ensures.value c.loop-term-test.true c.term-item.is c.in_ok-tell_unknown.ensures c.loop-term.invariant
