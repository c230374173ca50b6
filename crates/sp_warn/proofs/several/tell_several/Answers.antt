use Rattle.std.proofs.Common.{◌∷◌, ◌++◌, [], map, refl, get_or}
use Rattle.std.proofs.lemmas.List.{get_or_default}
use Rattle.sp_warn.specs.FormView.{form_of}
use Rattle.sp_lines.specs.TextsView.{texts_of}
use Rattle.sp_warn.specs.Told.{lines_after}
use Rattle.sp_warn.specs.Warnings.{several_among}
use Rattle.sp_warn.proofs.Namesakes.{knows_nothing}
use Rattle.sp_warn.proofs.Stepping.{next_several}
use Rattle.sp_warn.proofs.Telling.{nothing_left}
use Rattle.sp_warn.proofs.several.tell_several.Goals as goal

pub loop-form-init : goal.loop-form-init
loop-form-init c = ([], knows_nothing c.new-firsts.result c.new-firsts.ensures.empty, refl)

pub loop-form-preserved : goal.loop-form-preserved
loop-form-preserved c =
    let inv = c.loop-form.invariant in
    let before = inv.0 in
    let read = c.deref-form-items.result.now in
    let i = c.loop-form.form-index in (
      before ++ form_of (get_or read i _) ∷ [],
      c.in_ok-has_another.ensures.knows before inv.1,
      next_several before read c.args.forms.now.items i (get_or read i _) c.in_ok-has_another.has_another
          (texts_of c.loop-form.lines) (texts_of c.tell_if.new.lines) (lines_after (texts_of c.args.lines.now) (several_among [] (map form_of c.args.forms.now.items)))
          c.deref-form-items.ensures.value c.loop-form-test.true (get_or_default read i _ (get_or read i _) c.loop-form-test.true) (c.in_ok-has_another.ensures.differs before inv.1) c.in_ok-tell_if.ensures inv.2,
    )

pub returns : goal.returns
returns c =
    let inv = c.loop-form.invariant in
    nothing_left (λ fs. several_among inv.0 (map form_of fs)) refl c.deref-form-items.result.now c.args.forms.now.items c.loop-form.form-index (texts_of c.loop-form.lines)
    (lines_after (texts_of c.args.lines.now) (several_among [] (map form_of c.args.forms.now.items))) c.deref-form-items.ensures.value c.loop-form-test.false inv.2
