use Rattle.std.proofs.Common.{◌≡◌, map, drop}
use Rattle.sp_fact.specs.GroundView.{symbol_of}
use Rattle.sp_declared.specs.Symbols.{declared_after}
use Rattle.sp_declared.proofs.symbols.declare_all.Given as goal

abbrev pub invariant-loop-symbol : goal.invariant-loop-symbol
invariant-loop-symbol l =
    declared_after (map symbol_of l.declared.symbols.items) (map symbol_of (drop l.symbol-index l.symbol-items))
    ≡ declared_after (map symbol_of l.fn.declared.symbols.items) (map symbol_of l.more.items)
