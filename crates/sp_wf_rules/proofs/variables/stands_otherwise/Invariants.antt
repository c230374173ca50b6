use Rattle.std.proofs.Common.{◌≡◌, map, drop}
use Rattle.sp_read_parts.specs.Views as view
use Rattle.sp_term.specs.View.{sort_of}
use Rattle.sp_wf_rules.specs.RuleFindings as spec
use Rattle.sp_wf_rules.proofs.variables.stands_otherwise.Given as goal

abbrev pub invariant-loop-variable : goal.invariant-loop-variable
invariant-loop-variable l = spec.stands_otherwise l.by_fr (sort_of l.sort) l.name (map view.variable l.variables.items) ≡ spec.stands_otherwise l.by_fr (sort_of l.sort) l.name (map view.variable (drop l.variable-index l.variables.items))
