use Rattle.std.proofs.Common.{◌++◌, append_assoc, map}
use Rattle.std.proofs.lemmas.List.{map-append}
use Rattle.sp_fact.specs.GroundView.{equation_of}
use Rattle.sp_spec_text.specs.Written.{item_equations, equations_in}
use Rattle.sp_spec_text.specs.Declared as spec
use Rattle.sp_written.specs.Views as view
use Rattle.sp_declared.proofs.Stepping.{next}
use Rattle.sp_declared.proofs.equations.written_equations.Goals as goal

pub loop-item-preserved : goal.loop-item-preserved
loop-item-preserved c =
    next ◌++◌ append_assoc (λ x. map spec.equation_of (item_equations (view.item x))) (λ xs. map spec.equation_of (equations_in (view.items xs)))
    (λ x xs. map-append spec.equation_of (item_equations (view.item x)) (equations_in (view.items xs)))
    c.deref-item-items.result.now c.args.items.now.items c.loop-item.item-index c.item-item.result
    (map equation_of c.loop-item.found.items) (map equation_of c.push_written_of.new.found.items) (map spec.equation_of (equations_in (view.items c.args.items.now.items)))
    c.deref-item-items.ensures.value c.loop-item-test.true c.item-item.is c.in_ok-push_written_of.ensures c.loop-item.invariant
