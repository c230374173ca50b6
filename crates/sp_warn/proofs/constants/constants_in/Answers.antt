use Rattle.std.proofs.Common.{refl}
use Rattle.std.specs.List.{flat_map}
use Rattle.sp_written.specs.Views as view
use Rattle.sp_warn.specs.Constants.{in_item, constants_in}
use Rattle.sp_declared.proofs.ConstantSteps.{next}
use Rattle.sp_lines.specs.TextsView.{texts_of}
use Rattle.sp_warn.proofs.constants.constants_in.Goals as goal

pub loop-item-preserved : goal.loop-item-preserved
loop-item-preserved c =
    next (λ x. in_item (view.item x)) (λ xs. flat_map in_item (view.items xs)) (λ x xs. refl) c.deref-item-items.result.now c.args.items.now.items c.loop-item.item-index c.item-item.result
    (texts_of c.loop-item.seen) (texts_of c.see_item.new.seen) (constants_in (view.items c.args.items.now.items))
    c.deref-item-items.ensures.value c.loop-item-test.true c.item-item.is c.in_ok-see_item.ensures c.loop-item.invariant
