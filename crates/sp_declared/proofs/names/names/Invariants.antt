use Rattle.std.proofs.Common.{◌≡◌, [], map, drop}
use Rattle.sp_spec.specs.Written as written
use Rattle.sp_read_parts.specs.Views as view
use Rattle.sp_declared.specs.View.{texts_of}
use Rattle.sp_declared.proofs.names.names.Given as goal

abbrev pub invariant-loop-variable : goal.invariant-loop-variable
invariant-loop-variable l = written.names_after (texts_of l.seen.items) (map view.variable (drop l.variable-index l.variable-items)) ≡ written.names_after [] (map view.variable l.variables.items)
