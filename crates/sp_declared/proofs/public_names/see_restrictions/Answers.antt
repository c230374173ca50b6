use Rattle.std.proofs.Common.{◌∷◌, [], map}
use Rattle.sp_term.specs.View.{name_of}
use Rattle.sp_spec_text.specs.Written.{restrictions_in}
use Rattle.sp_written.specs.Views as view
use Rattle.sp_spec.specs.Constants.{once_after, in_restrictions}
use Rattle.sp_declared.proofs.ConstantSteps.{next, restrictions_begin}
use Rattle.sp_declared.proofs.public_names.see_restrictions.Goals as goal

pub loop-item-preserved : goal.loop-item-preserved
loop-item-preserved c =
    next (λ x. in_restrictions (restrictions_in (view.item x ∷ []))) (λ xs. in_restrictions (restrictions_in (view.items xs))) restrictions_begin c.deref-item-items.result.now c.args.items.now.items c.loop-item.item-index c.item-item.result
    (map name_of c.loop-item.seen.items) (map name_of c.see_if_restriction.new.seen.items) (once_after (map name_of c.args.seen.now.items) (in_restrictions (restrictions_in (view.items c.args.items.now.items))))
    c.deref-item-items.ensures.value c.loop-item-test.true c.item-item.is c.in_ok-see_if_restriction.ensures c.loop-item.invariant
