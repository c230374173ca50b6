use Rattle.std.proofs.Common.{◌∷◌, [], get_or}
use Rattle.std.proofs.lemmas.List.{get_or_default}
use Rattle.sp_declared.specs.View as declared
use Rattle.sp_declared.proofs.Stepping.{next}
use Rattle.sp_warn.specs.Constants.{alike_before}
use Rattle.sp_lines.specs.TextsView.{texts_of}
use Rattle.sp_warn.specs.Told.{lines_after}
use Rattle.sp_warn.specs.ToldLaws.{told_both}
use Rattle.sp_warn.proofs.Stepping.{alike_first}
use Rattle.sp_warn.proofs.alike.tell_alike_to.Goals as goal

pub loop-other-preserved : goal.loop-other-preserved
loop-other-preserved c =
    let constant = c.args.constant.now in
    let read = c.deref-other-items.result.now in
    let i = c.loop-other.other-index in
    next lines_after told_both (λ b. alike_before (b.now ∷ []) constant) (λ bs. alike_before (declared.texts_of bs) constant) (λ b bs. alike_first constant b.now (declared.texts_of bs))
    read c.args.earlier.now.items i (get_or read i _)
    (texts_of c.loop-other.lines) (texts_of c.tell_if_alike.new.lines) (lines_after (texts_of c.args.lines.now) (alike_before (declared.texts_of c.args.earlier.now.items) constant))
    c.deref-other-items.ensures.value c.loop-other-test.true (get_or_default read i _ (get_or read i _) c.loop-other-test.true) c.in_ok-tell_if_alike.ensures c.loop-other.invariant
