-- The block of a log that was found: of a lemma that names learning the lines of the log, of any other the execution that the log stands for. Source of the shape: Tamarin manual,
-- "Output" (the trace that is found); the words are this project's own.
use Rattle.std.specs.Prelude.{ℕ, Bool, true, false, List, Option}
use Rattle.sp_spec.specs.Theory.{Theory, Lemma}
use Rattle.sp_spec.specs.Log.{Log}
use Rattle.sp_spec.specs.Execution.{Step}
use Rattle.sp_spec.specs.Verdict.{names_learning}
use Rattle.sp_law_log_execution.specs.Executed.{executed_of}
use Rattle.sp_spec_log_lines.specs.Line.{Giving}
use Rattle.sp_law_printed_log.specs.Block as steps
use Rattle.sp_law_log_lines.specs.Block as logs
use Rattle.sp_law_log_lines.specs.Block.{given_in}

-- by what says which steps a log stands for, and which values the facts of a step give
abbrev pub block_by : (Log → List Step) → Giving → Bool → Option Log → List ℕ
block_by steps_of given true log = logs.log_block_by given log
block_by steps_of given false log = steps.block_by steps_of log

abbrev pub block_of : Theory → Bool → Option Log → List ℕ
block_of theory marked log = block_by (executed_of theory) (given_in theory) marked log

-- the numbers of the fresh names in it have an end
abbrev pub IsNumberedBy : (Log → List Step) → Giving → Bool → Option Log → Type 0
IsNumberedBy steps_of given true log = logs.AreNumberedBy given log
IsNumberedBy steps_of given false log = steps.IsNumberedBy steps_of log

abbrev pub IsNumbered : Theory → Lemma → Option Log → Type 0
IsNumbered theory lemma log = IsNumberedBy (executed_of theory) (given_in theory) (names_learning lemma.formula) log
