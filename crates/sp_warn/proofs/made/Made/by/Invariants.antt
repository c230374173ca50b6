use Rattle.std.proofs.Common.{◌≡◌, ◌++◌, map, drop}
use Rattle.sp_warn.specs.Forms.{Form, is_among}
use Rattle.sp_warn.specs.FormView.{form_of}
use Rattle.sp_warn.proofs.made.Made.by.Given as goal

abbrev pub invariant-loop-form : goal.invariant-loop-form
invariant-loop-form l = (x : Form) → is_among x (map form_of l.forms.keys ++ map form_of (drop l.form-index l.form-items)) ≡ is_among x (map form_of l.form-items)
