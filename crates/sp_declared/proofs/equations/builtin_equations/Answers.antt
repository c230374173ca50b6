use Rattle.std.proofs.Common.{◌++◌, append_assoc, map}
use Rattle.std.proofs.lemmas.List.Concat.{flat_map-append}
use Rattle.sp_fact.specs.GroundView.{equation_of}
use Rattle.sp_spec_text.specs.Written.{item_builtins, builtins_in}
use Rattle.sp_spec_text.specs.Declared.{builtin_of, builtin_equations}
use Rattle.sp_written.specs.Views as view
use Rattle.sp_declared.specs.Equations.{equations_named}
use Rattle.sp_declared.proofs.Stepping.{next}
use Rattle.sp_declared.proofs.equations.builtin_equations.Goals as goal

pub loop-item-preserved : goal.loop-item-preserved
loop-item-preserved c =
    next ◌++◌ append_assoc (λ x. equations_named (item_builtins (view.item x))) (λ xs. equations_named (builtins_in (view.items xs)))
    (λ x xs. flat_map-append (λ b. builtin_equations (builtin_of b)) (item_builtins (view.item x)) (builtins_in (view.items xs)))
    c.deref-item-items.result.now c.args.items.now.items c.loop-item.item-index c.item-item.result
    (map equation_of c.loop-item.found.items) (map equation_of c.push_builtins_of.new.found.items) (equations_named (builtins_in (view.items c.args.items.now.items)))
    c.deref-item-items.ensures.value c.loop-item-test.true c.item-item.is c.in_ok-push_builtins_of.ensures c.loop-item.invariant
