use Rattle.std.proofs.Common.{◌≡◌, map, drop}
use Rattle.sp_spec.specs.Written as written
use Rattle.sp_read_parts.specs.Views as view
use Rattle.sp_term.specs.View.{sort_of}
use Rattle.sp_finding.proofs.variables.is_written.Given as goal

abbrev pub invariant-loop-variable : goal.invariant-loop-variable
invariant-loop-variable l =
    written.is_written (sort_of l.sort) l.name (map view.variable l.variables.items)
    ≡ written.is_written (sort_of l.sort) l.name (map view.variable (drop l.variable-index l.variable-items))
