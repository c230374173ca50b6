use Rattle.std.proofs.Common.{◌≡◌, ◌||◌, map, drop}
use Rattle.indexmap.specs.IndexSet.{contains}
use Rattle.sp_fact.specs.GroundView.{symbol_of}
use Rattle.sp_finding.specs.TermFindings.{has_symbol}
use Rattle.sp_finding.specs.declared.forms.SymbolForm.{SymbolForm}
use Rattle.sp_finding.specs.contracts.forms.SymbolFormPartialEq.TheImpl as forms
use Rattle.sp_finding.proofs.known.KnownSymbols.of.Given as goal

abbrev pub invariant-loop-symbol : goal.invariant-loop-symbol
invariant-loop-symbol l =
    (x : SymbolForm) → (contains forms.ghosts.eq l.forms x || has_symbol (map symbol_of (drop l.symbol-index l.symbol-items)) x.name.now x.arity)
    ≡ has_symbol (map symbol_of l.symbol-items) x.name.now x.arity
