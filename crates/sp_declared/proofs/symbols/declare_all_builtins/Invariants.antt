use Rattle.std.proofs.Common.{◌≡◌, map, drop}
use Rattle.sp_fact.specs.GroundView.{symbol_of}
use Rattle.sp_spec_text.specs.Written.{builtins_in}
use Rattle.sp_written.specs.Views as view
use Rattle.sp_declared.specs.Symbols.{declared_after, symbols_named}
use Rattle.sp_declared.proofs.symbols.declare_all_builtins.Given as goal

abbrev pub invariant-loop-item : goal.invariant-loop-item
invariant-loop-item l =
    declared_after (map symbol_of l.declared.symbols.items) (symbols_named (builtins_in (view.items (drop l.item-index l.items.items))))
    ≡ declared_after (map symbol_of l.fn.declared.symbols.items) (symbols_named (builtins_in (view.items l.items.items)))
