-- Logs that a proof is about, and what has no solution over them. Source: CSF 2012, "Constraint solving" (soundness and completeness of its rules); Meier's
-- thesis, "Trace induction" (a proof by induction goes over to what a trace was before).
use Rattle.std.specs.Prelude.{zero, List}
use Rattle.sp_spec.specs.Lists.{Every}
use Rattle.sp_spec.specs.Theory.{Theory, signature_of}
use Rattle.sp_spec.specs.Guarded.{Guarded, GuardedHolds}
use Rattle.sp_spec.specs.Log.{Log, IsLog, log_trace}
use Rattle.sp_law_equal.specs.Matching.{any_of}
use Rattle.sp_spec_system.specs.System.{System}
use Rattle.sp_spec_system.specs.Solutions.{Valuation, assignment, Solves}
use Rattle.sp_spec_system.specs.Move.{Context, formulas_from}
use Rattle.sp_law_system.specs.Proofs.{IsPast}

-- Values under which a proof begins: any normal ones will do, since nothing free stands in its first system.
unfoldable pub start : Valuation
start = record { terms = λ x. any_of x.sort; times = λ i. zero }

-- The formula is true over the log's trace. (Nothing free stands in the formulas that this is said of: they are true under these values where they are so
-- under any.)
abbrev pub Over : Theory → Log → Guarded → Type 0
Over theory log f = GuardedHolds (signature_of theory) (log_trace log) (assignment start) f

-- The log is admitted: the formulas that the proof begins from are true over it.
abbrev pub Admits : Theory → Context → Log → Type 0
Admits theory context log = Every (Over theory log) (formulas_from context.root)

-- no log of the theory solves the system
abbrev pub HasNoSolution : Theory → System → Type 0
HasNoSolution theory s = (log : Log) → IsLog theory log → (v : Valuation) → Solves theory log v s → ⊥

-- no admitted one does
abbrev pub HasNoAdmitted : Theory → Context → System → Type 0
HasNoAdmitted theory context s = (log : Log) → IsLog theory log → Admits theory context log → (v : Valuation) → Solves theory log v s → ⊥

-- No system of the cases is solved by an admitted log that this one, which is admitted, was by then, only where this one doesn't solve the system.
pub record CoversBelow (theory : Theory) (context : Context) (s : System) (cases : List System) : Type 0 where
  pub below : (log : Log) → IsLog theory log → Admits theory context log → (v : Valuation) → Solves theory log v s
      → Every (λ (c : System). (past : Log) → IsPast past log → Admits theory context past → (w : Valuation) → Solves theory past w c → ⊥) cases → ⊥
