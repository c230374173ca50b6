use Rattle.std.proofs.Common.{sym, ap, ◌∙◌, ◌+◌, Option, get_or}
use Rattle.sp_read_parts.specs.Views.{variable}
use Rattle.sp_law_guard.specs.GuardedForm as spec
use Rattle.sp_guard.proofs.Lists.{none_written, inside, meant_more}
use Rattle.sp_guard.proofs.meaning.meant.Goals as goal

pub loop-binder-preserved : goal.loop-binder-preserved
loop-binder-preserved c =
    let x = c.args.name.now in
    let bs = c.deref-binder-items.result.now in
    let i = c.loop-binder.binder-index in
    let b = variable (get_or bs i none_written) in
    record {
      value = c.meant_inside-found.ensures.value ∙ ap (λ (m : Option spec.Meant). inside x b m) c.loop-binder.invariant.value ∙ sym (meant_more x bs i none_written c.loop-binder-test.true);
      place = c.meant_inside-found.ensures.place (i + 1) c.loop-binder.invariant.place;
    }
