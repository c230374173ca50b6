use Rattle.std.proofs.Common.{◌≡◌, drop}
use Rattle.sp_law_log_execution.specs.Executed as spec
use Rattle.sp_transfer.specs.View.{log_in}
use Rattle.sp_transfer.proofs.execution.is_taken.Given as goal

abbrev pub invariant-loop-entry : goal.invariant-loop-entry
invariant-loop-entry l =
    spec.is_taken (log_in l.earlier) l.position l.place ≡ spec.is_taken (log_in (drop l.entry-index l.earlier)) l.position l.place
