use Rattle.std.proofs.Common.{◌++◌, append_assoc, map, refl}
use Rattle.sp_term.specs.View.{name_of}
use Rattle.sp_fact.specs.GroundView.{equation_of}
use Rattle.sp_spec_text.specs.Declared.{builtin_of, builtin_equations}
use Rattle.sp_declared.specs.Equations.{equations_named}
use Rattle.sp_declared.proofs.Stepping.{next}
use Rattle.sp_declared.proofs.equations.push_builtins.Goals as goal

pub loop-name-preserved : goal.loop-name-preserved
loop-name-preserved c =
    next ◌++◌ append_assoc (λ b. builtin_equations (builtin_of (name_of b))) (λ bs. equations_named (map name_of bs)) (λ b bs. refl)
    c.deref-name-items.result.now c.args.names.now.items c.loop-name.name-index c.name-item.result
    (map equation_of c.loop-name.found.items) (map equation_of c.push_builtin.new.found.items) (map equation_of c.args.found.now.items ++ equations_named (map name_of c.args.names.now.items))
    c.deref-name-items.ensures.value c.loop-name-test.true c.name-item.is c.in_ok-push_builtin.ensures c.loop-name.invariant
