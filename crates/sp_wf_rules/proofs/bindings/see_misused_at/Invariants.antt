use Rattle.std.proofs.Common.{◌≡◌, drop}
use Rattle.sp_read_parts.specs.Views.{variable}
use Rattle.sp_declared.specs.View.{texts_of}
use Rattle.sp_wf_rules.specs.BindingFindings.{and_new, misused_at}
use Rattle.sp_wf_rules.specs.BindingView.{all_bound}
use Rattle.sp_wf_rules.proofs.bindings.see_misused_at.Given as goal

abbrev pub invariant-loop-bound : goal.invariant-loop-bound
invariant-loop-bound l =
    and_new (texts_of l.names.items) (misused_at (all_bound (drop l.bound-index l.bound-items)) (variable l.variable))
    ≡ and_new (texts_of l.fn.names.items) (misused_at (all_bound l.above.items) (variable l.variable))
