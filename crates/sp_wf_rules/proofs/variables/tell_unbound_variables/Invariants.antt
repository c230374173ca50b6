use Rattle.std.proofs.Common.{◌≡◌, map, drop}
use Rattle.sp_read_parts.specs.Views as view
use Rattle.sp_wf_rules.specs.RuleFindings as spec
use Rattle.sp_finding.specs.Finding.{lines_after}
use Rattle.sp_lines.specs.TextsView.{texts_of}
use Rattle.sp_wf_rules.proofs.variables.tell_unbound_variables.Given as goal

abbrev pub invariant-loop-variable : goal.invariant-loop-variable
invariant-loop-variable l = lines_after (texts_of l.lines) (spec.unbound l.rule.name.now (view.rule l.rule).facts (map view.variable (drop l.variable-index l.variables.items))) ≡ lines_after (texts_of l.fn.lines) (spec.unbound l.rule.name.now (view.rule l.rule).facts (map view.variable l.variables.items))
