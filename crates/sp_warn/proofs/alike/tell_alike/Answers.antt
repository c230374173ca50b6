use Rattle.std.proofs.Common.{◌∷◌, ◌++◌, [], map, refl}
use Rattle.std.specs.Prelude.{string_bytes}
use Rattle.sp_warn.specs.Constants.{alike_among}
use Rattle.sp_lines.specs.TextsView.{texts_of}
use Rattle.sp_warn.specs.Told.{lines_after}
use Rattle.sp_warn.proofs.Grouping.{grouped_nothing}
use Rattle.sp_warn.proofs.Stepping.{next_alike}
use Rattle.sp_warn.proofs.Telling.{nothing_left}
use Rattle.sp_warn.proofs.alike.tell_alike.Goals as goal

pub loop-constant-init : goal.loop-constant-init
loop-constant-init c = ([], grouped_nothing c.new-groups.result c.new-groups.ensures.empty, refl)

pub loop-constant-preserved : goal.loop-constant-preserved
loop-constant-preserved c =
    let inv = c.loop-constant.invariant in
    let before = inv.0 in
    let told = c.in_ok-tell_constant.ensures in
    let text = c.as_str.result.now in (
      before ++ text ∷ [],
      told.grouped before inv.1,
      next_alike before c.deref-constant-items.result.now c.args.constants.now.items c.loop-constant.constant-index c.constant-item.result text
          (texts_of c.loop-constant.lines) (texts_of c.tell_constant.new.lines) (lines_after (texts_of c.args.lines.now) (alike_among [] (map string_bytes c.args.constants.now.items)))
          c.deref-constant-items.ensures.value c.loop-constant-test.true c.constant-item.is c.as_str.ensures.value (told.told before inv.1) inv.2,
    )

pub returns : goal.returns
returns c =
    let inv = c.loop-constant.invariant in
    nothing_left (λ cs. alike_among inv.0 (map string_bytes cs)) refl c.deref-constant-items.result.now c.args.constants.now.items c.loop-constant.constant-index (texts_of c.loop-constant.lines)
    (lines_after (texts_of c.args.lines.now) (alike_among [] (map string_bytes c.args.constants.now.items))) c.deref-constant-items.ensures.value c.loop-constant-test.false inv.2
