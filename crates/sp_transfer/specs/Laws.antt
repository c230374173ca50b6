-- What holds of the log of an execution.
use Rattle.std.specs.Prelude.{◌≡◌, List, map, Option, Some, None, true}
use Rattle.sp_spec.specs.Lists.{newest_first}
use Rattle.sp_spec.specs.Theory.{Theory, signature_of}
use Rattle.sp_spec.specs.Execution.{Step, Trace, IsExecution}
use Rattle.sp_spec.specs.Log.{Entry, Log}
use Rattle.sp_spec_forms.specs.Forms.{forms_of}
use Rattle.sp_law_equal.specs.RightTheory.{IsRightTheory}
use Rattle.sp_law_adversary.specs.Laws.{Learns}
use Rattle.sp_learn.specs.Checking.{is_log}
use Rattle.sp_transfer.specs.Construction.{log_of}

-- Each execution of a right theory has a log that shows its trace in normal form.
pub record ExecutionsHaveLogs : Type 0 where
  pub each : (theory : Theory) → IsRightTheory theory → (steps : List Step) (trace : Trace) → IsExecution theory steps trace
      → (log : Log) × (log_of theory steps ≡ Some log) × Learns theory trace log

-- The entries, the oldest first, are a learning log that shows the trace in normal form, and pass the test of logs.
pub record AreLogged (theory : Theory) (trace : Trace) (entries : List Entry) : Type 0 where
  pub learns : Learns theory trace (newest_first entries)
  pub passes : is_log (signature_of theory) (map (forms_of (signature_of theory).equations) theory.rules) entries ≡ true

-- there are entries, and they are such ones
abbrev pub IsLogged : Theory → Trace → Option (List Entry) → Type 0
IsLogged theory trace None = ⊥
IsLogged theory trace (Some entries) = AreLogged theory trace entries
