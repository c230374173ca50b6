use Rattle.std.proofs.Common.{map, refl, get_or}
use Rattle.std.proofs.lemmas.List.{get_or_default}
use Rattle.sp_warn.specs.Forms.{is_among}
use Rattle.sp_warn.specs.FormView.{form_of}
use Rattle.sp_warn.proofs.LookedUp.{next_made}
use Rattle.sp_warn.proofs.made.Made.by.Goals as goal

pub loop-form-preserved : goal.loop-form-preserved
loop-form-preserved c x =
    let made = c.deref-form-items.result.now in
    let i = c.loop-form.form-index in
    next_made x made made i (get_or made i _) c.loop-form.forms.keys c.insert.new.self.keys (is_among x (map form_of made))
    refl c.loop-form-test.true (get_or_default made i _ (get_or made i _) c.loop-form-test.true) c.in_ok-insert.ensures.keys (c.loop-form.invariant x)
