-- What holds of all learning logs, those in which the adversary learns and sends too.
use Rattle.sp_spec.specs.Lists.{Every}
use Rattle.sp_spec.specs.Theory.{Theory}
use Rattle.sp_spec.specs.Log.{Log, visible_trace, IsLog}
use Rattle.sp_law_equal.specs.RightTheory.{LeavesReserved, IsRightTheory}
use Rattle.sp_law_log_steps.specs.Executable.{IsExecutable}
use Rattle.sp_law_log_steps.specs.Execution.{IsExecutionWith}
use Rattle.sp_law_log_execution.specs.Executed.{executed_of}

-- Each step of its logs stands for steps of an execution, and no rule takes what is put out. (A log doesn't name the Out from which a message is learnt: a rule could have taken
-- it.)
pub record IsRunnable (theory : Theory) : Type 0 where
  pub executable : IsExecutable theory
  pub reserved : Every LeavesReserved theory.rules

-- The steps that a log stands for, whatever its entries are, are an execution, whose trace has the log's visible trace as its normal form.
pub record LogsAreExecuted : Type 0 where
  pub each : (theory : Theory) → IsRunnable theory → (log : Log) → IsLog theory log
      → IsExecutionWith theory (executed_of theory log) (visible_trace log)

-- A right theory is such a theory.
pub record RightTheoriesAreRunnable : Type 0 where
  pub each : (theory : Theory) → IsRightTheory theory → IsRunnable theory
