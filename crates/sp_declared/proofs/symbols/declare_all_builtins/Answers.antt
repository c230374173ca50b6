use Rattle.std.proofs.Common.{map}
use Rattle.std.proofs.lemmas.List.Concat.{flat_map-append}
use Rattle.sp_fact.specs.GroundView.{symbol_of}
use Rattle.sp_spec_text.specs.Written.{item_builtins, builtins_in}
use Rattle.sp_spec_text.specs.Declared.{builtin_of, builtin_symbols}
use Rattle.sp_written.specs.Views as view
use Rattle.sp_declared.specs.Symbols.{declared_after, symbols_named}
use Rattle.sp_declared.proofs.Declaring.{declared_both}
use Rattle.sp_declared.proofs.Stepping.{next}
use Rattle.sp_declared.proofs.symbols.declare_all_builtins.Goals as goal

pub loop-item-preserved : goal.loop-item-preserved
loop-item-preserved c =
    next declared_after declared_both (λ x. symbols_named (item_builtins (view.item x))) (λ xs. symbols_named (builtins_in (view.items xs)))
    (λ x xs. flat_map-append (λ b. builtin_symbols (builtin_of b)) (item_builtins (view.item x)) (builtins_in (view.items xs)))
    c.deref-item-items.result.now c.args.items.now.items c.loop-item.item-index c.item-item.result
    (map symbol_of c.loop-item.declared.symbols.items) (map symbol_of c.declare_builtins_of.new.declared.symbols.items)
    (declared_after (map symbol_of c.args.declared.now.symbols.items) (symbols_named (builtins_in (view.items c.args.items.now.items))))
    c.deref-item-items.ensures.value c.loop-item-test.true c.item-item.is c.in_ok-declare_builtins_of.ensures c.loop-item.invariant
