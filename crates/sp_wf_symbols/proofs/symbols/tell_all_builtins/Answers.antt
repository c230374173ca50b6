use Rattle.std.proofs.Common.{List}
use Rattle.sp_spec_text.specs.Written.{Item, item_builtins, builtins_in}
use Rattle.sp_wf_symbols.specs.FirstsView.{symbols_of}
use Rattle.sp_wf_symbols.specs.Told.{otherwise_named}
use Rattle.sp_written.specs.Views as view
use Rattle.sp_finding.specs.Finding.{Finding, lines_after}
use Rattle.sp_lines.specs.TextsView.{texts_of}
use Rattle.sp_finding.proofs.Stepping.{next_told}
use Rattle.sp_wf_symbols.proofs.Declaring.{builtins_next}
use Rattle.sp_wf_symbols.proofs.symbols.tell_all_builtins.Goals as goal

pub loop-item-preserved : goal.loop-item-preserved
loop-item-preserved c =
    let all : List Item → List Finding = λ xs. otherwise_named (symbols_of c.args.symbols.now) (builtins_in xs) in
    next_told (λ x. otherwise_named (symbols_of c.args.symbols.now) (item_builtins x)) all (builtins_next (symbols_of c.args.symbols.now)) view.item c.deref-item-items.result.now c.args.items.now.items c.loop-item.item-index c.item-item.result
    (texts_of c.loop-item.lines) (texts_of c.tell_if_builtins.new.lines) (lines_after (texts_of c.args.lines.now) (all (view.items c.args.items.now.items)))
    c.deref-item-items.ensures.value c.loop-item-test.true c.item-item.is c.in_ok-tell_if_builtins.ensures c.loop-item.invariant
