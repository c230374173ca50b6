use Rattle.std.proofs.Common.{◌≡◌, ◌++◌, map, drop}
use Rattle.std.specs.List.{flat_map}
use Rattle.sp_declared.specs.WrittenRules.{rules_written}
use Rattle.sp_written.specs.Views as view
use Rattle.sp_warn.specs.Forms.{made_by, made_in}
use Rattle.sp_warn.specs.FormView.{form_of}
use Rattle.sp_warn.proofs.forms.made_in.Given as goal

abbrev pub invariant-loop-item : goal.invariant-loop-item
invariant-loop-item l =
    map form_of l.made.items ++ flat_map made_by (rules_written (view.items (drop l.item-index l.items.items))) ≡ made_in (rules_written (view.items l.items.items))
