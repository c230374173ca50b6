use Rattle.std.proofs.Common.{map, refl}
use Rattle.sp_term.specs.View.{name_of}
use Rattle.sp_fact.specs.GroundView.{symbol_of}
use Rattle.sp_spec_text.specs.Declared.{builtin_of, builtin_symbols}
use Rattle.sp_declared.specs.Symbols.{declared_after, symbols_named}
use Rattle.sp_declared.proofs.Declaring.{declared_both}
use Rattle.sp_declared.proofs.Stepping.{next}
use Rattle.sp_declared.proofs.symbols.declare_builtins.Goals as goal

pub loop-name-preserved : goal.loop-name-preserved
loop-name-preserved c =
    next declared_after declared_both (λ b. builtin_symbols (builtin_of (name_of b))) (λ bs. symbols_named (map name_of bs)) (λ b bs. refl)
    c.deref-name-items.result.now c.args.names.now.items c.loop-name.name-index c.name-item.result
    (map symbol_of c.loop-name.declared.symbols.items) (map symbol_of c.declare_builtin.new.declared.symbols.items)
    (declared_after (map symbol_of c.args.declared.now.symbols.items) (symbols_named (map name_of c.args.names.now.items)))
    c.deref-name-items.ensures.value c.loop-name-test.true c.name-item.is c.in_ok-declare_builtin.ensures c.loop-name.invariant
