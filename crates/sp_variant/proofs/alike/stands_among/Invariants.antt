use Rattle.std.proofs.Common.{◌≡◌, Bool, map, drop}
use Rattle.std.specs.List.{list_any}
use Rattle.sp_spec_forms.specs.Numbering.{Form}
use Rattle.sp_spec_forms.specs.Forms.{alike_form}
use Rattle.sp_book.specs.View.{form_of}
use Rattle.sp_variant.specs.View.{list_by}
use Rattle.sp_variant.proofs.alike.stands_among.Given as goal

abbrev pub invariant-loop-other : goal.invariant-loop-other
invariant-loop-other l =
    let is : Form → Bool = λ f. alike_form f (form_of l.form) in
    list_any is (list_by form_of l.forms) ≡ list_any is (map form_of (drop l.other-index l.other-items))
