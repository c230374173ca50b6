use Rattle.std.proofs.Common.{map, refl}
use Rattle.sp_fact.specs.GroundView.{symbol_of}
use Rattle.sp_spec_text.specs.Written.{item_functions, functions_in}
use Rattle.sp_written.specs.Views as view
use Rattle.sp_declared.specs.Symbols.{declared_after}
use Rattle.sp_declared.proofs.Declaring.{declared_both}
use Rattle.sp_declared.proofs.Stepping.{next}
use Rattle.sp_declared.proofs.symbols.declare_all_functions.Goals as goal

pub loop-item-preserved : goal.loop-item-preserved
loop-item-preserved c =
    next declared_after declared_both (λ x. item_functions (view.item x)) (λ xs. functions_in (view.items xs)) (λ x xs. refl)
    c.deref-item-items.result.now c.args.items.now.items c.loop-item.item-index c.item-item.result
    (map symbol_of c.loop-item.declared.symbols.items) (map symbol_of c.declare_functions_of.new.declared.symbols.items)
    (declared_after (map symbol_of c.args.declared.now.symbols.items) (functions_in (view.items c.args.items.now.items)))
    c.deref-item-items.ensures.value c.loop-item-test.true c.item-item.is c.in_ok-declare_functions_of.ensures c.loop-item.invariant
