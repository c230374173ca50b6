use Rattle.std.proofs.Common.{◌≡◌, List, [], map, drop}
use Rattle.sp_warn.specs.Firsts.{Knows}
use Rattle.sp_warn.specs.Forms.{Form}
use Rattle.sp_warn.specs.FormView.{form_of}
use Rattle.sp_lines.specs.TextsView.{texts_of}
use Rattle.sp_warn.specs.Told.{lines_after}
use Rattle.sp_warn.specs.Warnings.{several_among}
use Rattle.sp_warn.proofs.several.tell_several.Given as goal

abbrev pub invariant-loop-form : goal.invariant-loop-form
invariant-loop-form l =
    (before : List Form) × Knows l.firsts before
    × (lines_after (texts_of l.lines) (several_among before (map form_of (drop l.form-index l.forms.items))) ≡ lines_after (texts_of l.fn.lines) (several_among [] (map form_of l.forms.items)))
