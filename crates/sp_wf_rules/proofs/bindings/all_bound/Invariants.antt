use Rattle.std.proofs.Common.{◌≡◌, [], drop}
use Rattle.sp_read_parts.specs.Views.{bindings}
use Rattle.sp_wf_rules.specs.BindingFindings.{bound_after}
use Rattle.sp_wf_rules.specs.BindingView.{all_bound}
use Rattle.sp_wf_rules.proofs.bindings.all_bound.Given as goal

abbrev pub invariant-loop-binding : goal.invariant-loop-binding
invariant-loop-binding l = bound_after (all_bound l.above.items) (bindings (drop l.binding-index l.binding-items)) ≡ bound_after [] (bindings l.bindings.items)
