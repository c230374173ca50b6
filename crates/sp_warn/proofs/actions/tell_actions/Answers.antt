use Rattle.std.proofs.Common.{refl}
use Rattle.std.specs.List.{flat_map}
use Rattle.sp_written.specs.Views as view
use Rattle.sp_declared.proofs.Stepping.{next}
use Rattle.sp_warn.specs.FormView.{made_of}
use Rattle.sp_lines.specs.TextsView.{texts_of}
use Rattle.sp_warn.specs.Told.{lines_after}
use Rattle.sp_warn.specs.Warnings.{actions_of_item}
use Rattle.sp_warn.specs.ToldLaws.{told_both}
use Rattle.sp_warn.proofs.actions.tell_actions.Goals as goal

pub loop-item-preserved : goal.loop-item-preserved
loop-item-preserved c =
    let on = actions_of_item (made_of c.args.made.now) in
    next lines_after told_both (λ x. on (view.item x)) (λ xs. flat_map on (view.items xs)) (λ x xs. refl)
    c.deref-item-items.result.now c.args.items.now.items c.loop-item.item-index c.item-item.result
    (texts_of c.loop-item.lines) (texts_of c.tell_item.new.lines) (lines_after (texts_of c.args.lines.now) (flat_map on (view.items c.args.items.now.items)))
    c.deref-item-items.ensures.value c.loop-item-test.true c.item-item.is c.in_ok-tell_item.ensures c.loop-item.invariant
