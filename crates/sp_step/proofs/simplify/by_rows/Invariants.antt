use Rattle.std.proofs.Common.{◌≡◌, map, drop}
use Rattle.sp_system.specs.SystemView.{system_of}
use Rattle.sp_spec_proof.specs.Rows.{by_rows, rows}
use Rattle.sp_step.specs.ReduceView.{row_of}
use Rattle.sp_step.specs.View.{rules_of}
use Rattle.sp_step.proofs.simplify.by_rows.Given as goal

abbrev pub invariant-loop-row : goal.invariant-loop-row
invariant-loop-row l =
    (by_rows (rules_of l.rules) rows (system_of l.fn.system) ≡ by_rows (rules_of l.rules) (map row_of (drop l.row-index l.row-items)) (system_of l.system))
    × (system_of l.system ≡ system_of l.fn.system)
