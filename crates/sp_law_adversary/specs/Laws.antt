-- What holds of executions in which the adversary takes part.
use Rattle.std.specs.Prelude.{◌≡◌, ◌↔◌, zero, List, codes}
use Rattle.sp_spec.specs.Lists.{Member, Every}
use Rattle.sp_spec.specs.Signature.{Symbol, pair_equations}
use Rattle.sp_spec.specs.Theory.{Theory, signature_of}
use Rattle.sp_spec.specs.Execution.{Step, Trace, IsExecution}
use Rattle.sp_spec.specs.Log.{Log, log_trace, visible_trace, IsLog}
use Rattle.sp_spec.specs.Guarded.{Guarded, Assignment, GuardedHolds}
use Rattle.sp_law_equal.specs.NormalForms.{HaveNormalForms}
use Rattle.sp_law_equal.specs.Right.{KeepPublic}
use Rattle.sp_law_equal.specs.RightTheory.{LeavesReserved}
use Rattle.sp_law_truth.specs.Same.{EqualTraces}
use Rattle.sp_law_truth.specs.Shown.{action_names, IsTimed}
use Rattle.sp_law_run.specs.NormalStep.{normal_trace}

-- The equations of pairs bring the adversary nothing that it can't take out, whatever the symbols are.
pub record PairsKeepPublic : Type 0 where
  pub keep : (symbols : List Symbol) → KeepPublic symbols pair_equations

-- a log that shows the trace in normal form, and so the same trace modulo the equations
pub record Learns (theory : Theory) (trace : Trace) (log : Log) : Type 0 where
  pub is_log : IsLog theory log
  pub shows : visible_trace log ≡ normal_trace (signature_of theory).equations trace
  pub same_trace : EqualTraces (signature_of theory).equations trace (visible_trace log)

-- Each execution has a log that shows its trace in normal form: whatever the adversary gets, it can learn in normal form.
pub record ExecutionsAreLearnt : Type 0 where
  pub each : (theory : Theory) → HaveNormalForms (signature_of theory).equations → KeepPublic (signature_of theory).symbols (signature_of theory).equations
      → Every LeavesReserved theory.rules → (steps : List Step) (trace : Trace) → IsExecution theory steps trace → (log : Log) × Learns theory trace log

-- A formula that doesn't speak of learning, and whose times all have an action in their guards, is as true over the trace as over the log's.
pub record LogsKeepTruth : Type 0 where
  pub each : (theory : Theory) (trace : Trace) (log : Log) → Learns theory trace log → (f : Guarded) → IsTimed zero f
      → (Member (codes "KU") (action_names f) → ⊥)
      → (m : Assignment) → GuardedHolds (signature_of theory) trace m f ↔ GuardedHolds (signature_of theory) (log_trace log) m f
