-- What the replaying of steps answers: the trace of the execution, or the first step that can't be done, and why.
-- Source: CSF 2012, "Labeled multiset rewriting" (executions and their traces).
use Rattle.std.specs.Prelude.{◌≡◌, ◌<◌, ℕ, suc, List, ◌∷◌, ◌++◌, length}
use Rattle.sp_spec.specs.Theory.{Theory, signature_of}
use Rattle.sp_spec.specs.Execution.{Step, State, Trace, Runs, IsExecution, Cause, no_such_rule, no_instance, premise_absent, fresh_name_twice, wrong_sort, IsNoStep}
use Rattle.sp_law_run.specs.NormalStep.{normal_trace}
use Rattle.sp_fact.specs.GroundView.{trace_of}
use Rattle.sp_spec.specs.Lists.{newest_first}
use Rattle.sp_exec.specs.View.{cause_of}
use Rattle.sp_exec.specs.declared.replay.Replayed.{Replayed}
use Rattle.sp_exec.specs.declared.replay.Replayed.TheVariants.{Done, Refused}

-- The steps, the oldest first, are an execution, and this is the normal form of its trace, whichever facts were taken.
pub record IsReplayed (theory : Theory) (steps : List Step) (trace : Trace) : Type 0 where
  pub shown : Trace
  pub executed : IsExecution theory (newest_first steps) shown
  pub each : (other : Trace) → IsExecution theory (newest_first steps) other → normal_trace (signature_of theory).equations other ≡ trace

-- the causes in their order
abbrev pub rank : Cause → ℕ
rank no_such_rule = 0
rank no_instance = 1
rank premise_absent = 2
rank fresh_name_twice = 3
rank wrong_sort = 4

-- The steps before the n-th, counted from 1, are an execution, and in no state to which they lead can the n-th be done: this cause holds
-- there, and no lesser one.
pub record IsFirstFault (theory : Theory) (steps : List Step) (n : ℕ) (cause : Cause) : Type 0 where
  pub front : List Step
  pub step : Step
  pub back : List Step
  pub splits : steps ≡ front ++ step ∷ back
  pub counted : n ≡ suc (length front)
  pub reached : (state : State) × (trace : Trace) × Runs theory (newest_first front) state trace
  pub fails : (state : State) (trace : Trace) → Runs theory (newest_first front) state trace → IsNoStep cause theory step state
  pub least : (state : State) (trace : Trace) → Runs theory (newest_first front) state trace
      → (lesser : Cause) → rank lesser < rank cause → IsNoStep lesser theory step state → ⊥

-- The answer is right: the steps are an execution with this trace, or have this first fault.
abbrev pub IsReplay : Theory → List Step → Replayed → Type 0
IsReplay theory steps (Done trace) = IsReplayed theory steps (trace_of trace)
IsReplay theory steps (Refused n cause) = IsFirstFault theory steps n (cause_of cause)
