use Rattle.std.proofs.Common.{map, not, ap, ◌∙◌}
use Rattle.sp_fact.specs.GroundView.{symbol_of}
use Rattle.sp_wf_symbols.proofs.FirstNamed.{differs_found, differs_not}
use Rattle.sp_wf_symbols.proofs.firsts.FirstSymbols.differ_from.Goals as goal

pub returns-in-Some : goal.returns-in-Some
returns-in-Some c =
    let known = c.args.self.now in
    ap not c.is_same_symbol.ensures
    ∙ differs_found known.firsts (map symbol_of known.symbols.now.items) known.is_exact c.as_str.result (symbol_of c.args.symbol.now) c.as_str.ensures.value c.in-Some.first.now c.in-Some.ensures.value

pub returns-in-None : goal.returns-in-None
returns-in-None c =
    let known = c.args.self.now in
    differs_not known.firsts (map symbol_of known.symbols.now.items) known.is_exact c.as_str.result (symbol_of c.args.symbol.now) c.as_str.ensures.value c.in-None.ensures.value
