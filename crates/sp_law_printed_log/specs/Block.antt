-- The block of an execution that was found. Source of the shape: Tamarin manual, "Output" (the trace that is found); the words are this
-- project's own.
use Rattle.std.specs.Prelude.{ℕ, List, [], ◌∷◌, ◌++◌, codes, Option, Some, None}
use Rattle.sp_spec.specs.Theory.{Theory}
use Rattle.sp_spec.specs.Execution.{Step}
use Rattle.sp_spec.specs.Log.{Log, visible_trace}
use Rattle.sp_spec.specs.Lists.{Every, newest_first}
use Rattle.sp_law_log_execution.specs.Executed.{executed_of}
use Rattle.sp_spec_printed.specs.Printed.{step_text, trace_block}
use Rattle.sp_show.specs.Numbers.{StepHasNames, numbered_names}

-- the order turned round: of what stands the newest first, the oldest first
abbrev pub oldest_first : {A : Type 0} → List A → List A
oldest_first xs = newest_first xs

-- each step on a line
abbrev pub steps_text : List Step → List ℕ
steps_text [] = []
steps_text (step ∷ steps) = step_text step ++ (codes "\n" ++ steps_text steps)

-- the steps that the log stands for, by what says which these are, and its trace
abbrev pub block_by : (Log → List Step) → Option Log → List ℕ
block_by steps_of None = []
block_by steps_of (Some log) = codes "execution:\n" ++ (steps_text (oldest_first (steps_of log)) ++ trace_block (oldest_first (visible_trace log)))

abbrev pub block_of : Theory → Option Log → List ℕ
block_of theory log = block_by (executed_of theory) log

-- the numbers of the fresh names in the execution have an end
abbrev pub IsNumberedBy : (Log → List Step) → Option Log → Type 0
IsNumberedBy steps_of None = Unit {0}
IsNumberedBy steps_of (Some log) = Every (StepHasNames numbered_names) (steps_of log)

abbrev pub IsNumbered : Theory → Option Log → Type 0
IsNumbered theory log = IsNumberedBy (executed_of theory) log
