-- Steps that are an execution, with what it shows.
use Rattle.std.specs.Prelude.{◌≡◌, List}
use Rattle.sp_spec.specs.Theory.{Theory, signature_of}
use Rattle.sp_spec.specs.Execution.{Step, Trace, IsExecution}
use Rattle.sp_law_run.specs.NormalStep.{normal_trace}

-- The steps are an execution, whose trace has this normal form.
pub record IsExecutionWith (theory : Theory) (steps : List Step) (normal : Trace) : Type 0 where
  pub trace : Trace
  pub executed : IsExecution theory steps trace
  pub is : normal_trace (signature_of theory).equations trace ≡ normal
