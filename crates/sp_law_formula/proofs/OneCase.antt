-- One case that the same values solve covers.
use Rattle.std.proofs.Common.{[], ◌∷◌}
use Rattle.sp_spec.specs.Theory.{Theory}
use Rattle.sp_spec.specs.Log.{Log, IsLog}
use Rattle.sp_spec_system.specs.System.{System}
use Rattle.sp_spec_system.specs.Solutions.{Valuation, Solves}
use Rattle.sp_spec_system.specs.Covering.{Covers}
use Rattle.sp_law_system.proofs.Solutions.{agrees_itself}

pub covers_by_itself : (theory : Theory) (s t : System) → ((log : Log) → IsLog theory log → (v : Valuation) → Solves theory log v s → Solves theory log v t) → Covers theory s (t ∷ [])
covers_by_itself theory s t f = record { covers = λ log is v h none. none.0 v (agrees_itself s.next v) (f log is v h) }
