use Rattle.std.proofs.Common.{◌≡◌, map, drop, ◌++◌}
use Rattle.sp_spec.specs.Written.{in_actions}
use Rattle.sp_read_parts.specs.Views as view
use Rattle.sp_finding.proofs.variables.gather_actions.Given as goal

abbrev pub invariant-loop-action : goal.invariant-loop-action
invariant-loop-action l =
    map view.variable l.found.items ++ in_actions (map view.action_of (drop l.action-index l.action-items))
    ≡ map view.variable l.fn.found.items ++ in_actions (map view.action_of l.actions.items)
