use Rattle.std.proofs.Common.{◌≡◌, map, drop}
use Rattle.sp_read_parts.specs.Views as view
use Rattle.sp_wf_rules.specs.RuleFindings as spec
use Rattle.sp_wf_rules.proofs.variables.first_mark.Given as goal

abbrev pub invariant-loop-variable : goal.invariant-loop-variable
invariant-loop-variable l = spec.first_mark l.name (map view.variable l.variables.items) ≡ spec.first_mark l.name (map view.variable (drop l.variable-index l.variables.items))
