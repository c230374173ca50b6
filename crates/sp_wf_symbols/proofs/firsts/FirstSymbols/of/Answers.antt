use Rattle.std.proofs.Common.{map}
use Rattle.sp_fact.specs.GroundView.{symbol_of}
use Rattle.sp_wf_symbols.specs.Firsts.{first_in, first_named}
use Rattle.sp_wf_symbols.proofs.FirstNamed.{next_first}
use Rattle.sp_wf_symbols.proofs.firsts.FirstSymbols.of.Goals as goal

pub loop-symbol-preserved : goal.loop-symbol-preserved
loop-symbol-preserved c name =
    next_first c.deref-symbol-items.result.now c.args.symbols.now.items c.loop-symbol.symbol-index c.symbol-item.result name.now
    (first_in c.loop-symbol.firsts name) (first_in c.note.new.firsts name) (first_named name.now (map symbol_of c.args.symbols.now.items))
    c.deref-symbol-items.ensures.value c.loop-symbol-test.true c.symbol-item.is (c.in_ok-note.ensures name) (c.loop-symbol.invariant name)
