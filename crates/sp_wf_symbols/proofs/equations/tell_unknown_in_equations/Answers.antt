use Rattle.std.proofs.Common.{List, ◌++◌, map, sym, append_assoc}
use Rattle.sp_read_parts.specs.Views.{term}
use Rattle.sp_written.specs.Views as view
use Rattle.sp_written.specs.declared.theory.WrittenEquation.{WrittenEquation}
use Rattle.sp_finding.specs.TermFindings.{unknown_in}
use Rattle.sp_wf_symbols.specs.SymbolFindings.{unknown_in_equations}
use Rattle.sp_finding.proofs.Telling.{one_behind}
use Rattle.sp_finding.specs.Finding.{Finding, lines_after}
use Rattle.sp_finding.specs.KnownView.{symbols_of}
use Rattle.sp_lines.specs.TextsView.{texts_of}
use Rattle.sp_finding.proofs.Stepping.{next_part}
use Rattle.sp_wf_symbols.proofs.equations.tell_unknown_in_equations.Goals as goal

pub loop-equation-preserved : goal.loop-equation-preserved
loop-equation-preserved c =
    let all : List WrittenEquation → List Finding = λ xs. unknown_in_equations (symbols_of c.args.symbols.now) (map view.equation xs) in
    next_part (λ x. unknown_in (symbols_of c.args.symbols.now) (term x.left) ++ unknown_in (symbols_of c.args.symbols.now) (term x.right)) all (λ x xs. sym (append_assoc (unknown_in (symbols_of c.args.symbols.now) (term x.left)) (unknown_in (symbols_of c.args.symbols.now) (term x.right)) (unknown_in_equations (symbols_of c.args.symbols.now) (map view.equation xs)))) c.deref-equation-items.result.now c.args.equations.now.items c.loop-equation.equation-index c.equation-item.result
    (texts_of c.loop-equation.lines) (texts_of c.tell_unknown-in-loop-equation.new.lines) (lines_after (texts_of c.args.lines.now) (all c.args.equations.now.items))
    c.deref-equation-items.ensures.value c.loop-equation-test.true c.equation-item.is (one_behind (texts_of c.loop-equation.lines) (texts_of c.tell_unknown.new.lines) (texts_of c.tell_unknown-in-loop-equation.new.lines)
    (unknown_in (symbols_of c.args.symbols.now) (term c.equation-item.result.left)) (unknown_in (symbols_of c.args.symbols.now) (term c.equation-item.result.right)) c.in_ok-tell_unknown.ensures c.in_ok-tell_unknown-2.ensures) c.loop-equation.invariant
