use Rattle.std.proofs.Common.{◌≡◌, drop, map}
use Rattle.sp_read_parts.specs.Views.{variable}
use Rattle.sp_declared.specs.View.{texts_of}
use Rattle.sp_wf_rules.specs.BindingFindings.{misused_after, misused_among}
use Rattle.sp_wf_rules.specs.BindingView.{all_bound}
use Rattle.sp_wf_rules.proofs.bindings.misused_among.Given as goal

abbrev pub invariant-loop-variable : goal.invariant-loop-variable
invariant-loop-variable l =
    misused_after (all_bound l.above.items) (texts_of l.names.items) (map variable (drop l.variable-index l.variable-items)) ≡ misused_among (all_bound l.above.items) (map variable l.variables.items)
