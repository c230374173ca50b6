use Rattle.std.proofs.Common.{◌≡◌, map, drop}
use Rattle.sp_term.specs.View.{name_of}
use Rattle.sp_fact.specs.GroundView.{symbol_of}
use Rattle.sp_declared.specs.Symbols.{declared_after, symbols_named}
use Rattle.sp_declared.proofs.symbols.declare_builtins.Given as goal

abbrev pub invariant-loop-name : goal.invariant-loop-name
invariant-loop-name l =
    declared_after (map symbol_of l.declared.symbols.items) (symbols_named (map name_of (drop l.name-index l.names.items)))
    ≡ declared_after (map symbol_of l.fn.declared.symbols.items) (symbols_named (map name_of l.names.items))
