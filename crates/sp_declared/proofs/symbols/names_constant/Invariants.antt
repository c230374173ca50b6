use Rattle.std.proofs.Common.{◌≡◌, map, drop}
use Rattle.sp_fact.specs.GroundView.{symbol_of}
use Rattle.sp_spec_text.specs.Declared as spec
use Rattle.sp_declared.proofs.symbols.names_constant.Given as goal

abbrev pub invariant-loop-symbol : goal.invariant-loop-symbol
invariant-loop-symbol l = spec.is_constant (map symbol_of l.symbols.items) l.name ≡ spec.is_constant (map symbol_of (drop l.symbol-index l.symbol-items)) l.name
