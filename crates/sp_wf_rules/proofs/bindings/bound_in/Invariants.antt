use Rattle.std.proofs.Common.{◌≡◌, ◌++◌, drop, map}
use Rattle.sp_written.specs.Views as view
use Rattle.sp_wf_rules.specs.BindingFindings.{bound_in}
use Rattle.sp_wf_rules.specs.BindingView.{names_of}
use Rattle.sp_wf_rules.proofs.bindings.bound_in.Given as goal

abbrev pub invariant-loop-item : goal.invariant-loop-item
invariant-loop-item l = map names_of l.bound.items ++ bound_in (view.items (drop l.item-index l.items.items)) ≡ bound_in (view.items l.items.items)
