use Rattle.sp_spec_text.specs.Bindings.{whole}
use Rattle.sp_read_parts.specs.Views.{binding, bindings}
use Rattle.sp_resolved.proofs.Valued.{next_whole, pushed_whole}
use Rattle.sp_resolved.proofs.bindings.whole.Goals as goal

pub loop-binding-preserved : goal.loop-binding-preserved
loop-binding-preserved c =
    let above = c.loop-binding.above.items in
    let made = c.push.new.self.items in
    next_whole (bindings above) (bindings made) (whole (bindings c.args.bindings.now.items)) c.loop-binding.binding-index c.deref-binding-items.result.now c.args.bindings.now.items c.binding-item.result
    c.deref-binding-items.ensures.value c.loop-binding-test.true c.binding-item.is
    (pushed_whole above made c.in_ok-made.made (binding c.binding-item.result) c.in_ok-push.ensures.items c.in_ok-made.ensures) c.loop-binding.invariant
