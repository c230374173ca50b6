use Rattle.std.proofs.Common.{List}
use Rattle.sp_spec_text.specs.Written.{Item, item_builtins, builtins_in}
use Rattle.sp_wf_symbols.specs.SymbolFindings.{left_out}
use Rattle.sp_written.specs.Views as view
use Rattle.sp_finding.specs.Finding.{Finding, lines_after}
use Rattle.sp_lines.specs.TextsView.{texts_of}
use Rattle.sp_finding.proofs.Stepping.{next_told}
use Rattle.sp_wf_symbols.proofs.Declaring.{left_out_next}
use Rattle.sp_wf_symbols.proofs.symbols.tell_left_out.Goals as goal

pub loop-item-preserved : goal.loop-item-preserved
loop-item-preserved c =
    let all : List Item → List Finding = λ xs. left_out (builtins_in xs) in
    next_told (λ x. left_out (item_builtins x)) all (left_out_next) view.item c.deref-item-items.result.now c.args.items.now.items c.loop-item.item-index c.item-item.result
    (texts_of c.loop-item.lines) (texts_of c.tell_if_left_out.new.lines) (lines_after (texts_of c.args.lines.now) (all (view.items c.args.items.now.items)))
    c.deref-item-items.ensures.value c.loop-item-test.true c.item-item.is c.in_ok-tell_if_left_out.ensures c.loop-item.invariant
