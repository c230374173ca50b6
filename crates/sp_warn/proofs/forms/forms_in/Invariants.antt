use Rattle.std.proofs.Common.{◌≡◌, ◌++◌, map, drop}
use Rattle.std.specs.List.{flat_map}
use Rattle.sp_declared.specs.WrittenRules.{rules_written}
use Rattle.sp_written.specs.Views as view
use Rattle.sp_warn.specs.Forms.{forms_of, forms_in}
use Rattle.sp_warn.specs.FormView.{form_of}
use Rattle.sp_warn.proofs.forms.forms_in.Given as goal

abbrev pub invariant-loop-item : goal.invariant-loop-item
invariant-loop-item l =
    map form_of l.found.items ++ flat_map forms_of (rules_written (view.items (drop l.item-index l.items.items))) ≡ forms_in (rules_written (view.items l.items.items))
