use Rattle.std.proofs.Common.{◌≡◌, drop, map}
use Rattle.sp_term.specs.View.{name_of}
use Rattle.sp_fact.specs.GroundView.{symbol_of}
use Rattle.sp_norm.specs.Over.{any_symbol}
use Rattle.sp_norm.proofs.over.any_symbol.Given as goal

abbrev pub invariant-loop-symbol : goal.invariant-loop-symbol
invariant-loop-symbol l = any_symbol (map symbol_of l.symbols.items) (name_of l.name) l.count ≡ any_symbol (map symbol_of (drop l.symbol-index l.symbol-items)) (name_of l.name) l.count
