use Rattle.std.proofs.Common.{map, refl}
use Rattle.std.specs.List.{flat_map}
use Rattle.sp_written.specs.Views as view
use Rattle.sp_spec.specs.Constants.{once_after}
use Rattle.sp_warn.specs.Constants.{in_equation}
use Rattle.sp_declared.proofs.ConstantSteps.{next}
use Rattle.sp_lines.specs.TextsView.{texts_of}
use Rattle.sp_warn.proofs.constants.see_equations.Goals as goal

pub loop-equation-preserved : goal.loop-equation-preserved
loop-equation-preserved c =
    next (λ x. in_equation (view.equation x)) (λ xs. flat_map in_equation (map view.equation xs)) (λ x xs. refl) c.deref-equation-items.result.now c.args.equations.now.items c.loop-equation.equation-index c.equation-item.result
    (texts_of c.loop-equation.seen) (texts_of c.see_sides.new.seen) (once_after (texts_of c.args.seen.now) (flat_map in_equation (map view.equation c.args.equations.now.items)))
    c.deref-equation-items.ensures.value c.loop-equation-test.true c.equation-item.is c.in_ok-see_sides.ensures c.loop-equation.invariant
