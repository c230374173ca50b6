use Rattle.std.proofs.Common.{List}
use Rattle.sp_spec_text.specs.Written.{Item, item_functions, functions_in}
use Rattle.sp_wf_symbols.specs.FirstsView.{symbols_of}
use Rattle.sp_wf_symbols.specs.SymbolFindings.{declared_otherwise}
use Rattle.sp_written.specs.Views as view
use Rattle.sp_finding.specs.Finding.{Finding, lines_after}
use Rattle.sp_lines.specs.TextsView.{texts_of}
use Rattle.sp_finding.proofs.Stepping.{next_told}
use Rattle.sp_wf_symbols.proofs.Declaring.{functions_next}
use Rattle.sp_wf_symbols.proofs.symbols.tell_all_functions.Goals as goal

pub loop-item-preserved : goal.loop-item-preserved
loop-item-preserved c =
    let all : List Item → List Finding = λ xs. declared_otherwise (symbols_of c.args.symbols.now) (functions_in xs) in
    next_told (λ x. declared_otherwise (symbols_of c.args.symbols.now) (item_functions x)) all (functions_next (symbols_of c.args.symbols.now)) view.item c.deref-item-items.result.now c.args.items.now.items c.loop-item.item-index c.item-item.result
    (texts_of c.loop-item.lines) (texts_of c.tell_if_functions.new.lines) (lines_after (texts_of c.args.lines.now) (all (view.items c.args.items.now.items)))
    c.deref-item-items.ensures.value c.loop-item-test.true c.item-item.is c.in_ok-tell_if_functions.ensures c.loop-item.invariant
