-- What holds of the answers of replaying.
use Rattle.std.specs.Prelude.{◌≡◌, ℕ, List}
use Rattle.sp_spec.specs.Theory.{Theory}
use Rattle.sp_spec.specs.Execution.{Step, Trace, IsExecution, Cause}
use Rattle.sp_spec.specs.Lists.{newest_first}
use Rattle.sp_exec.specs.Replay.{IsReplayed, IsFirstFault}

-- Of the same steps there is one answer: one trace, or one first fault with one cause, and then they are no execution.
pub record ReplaysAreOne : Type 0 where
  pub traces : (theory : Theory) (steps : List Step) (trace other : Trace) → IsReplayed theory steps trace → IsReplayed theory steps other → trace ≡ other
  pub faults : (theory : Theory) (steps : List Step) (n m : ℕ) (cause other : Cause) → IsFirstFault theory steps n cause → IsFirstFault theory steps m other
      → (n ≡ m) × (cause ≡ other)
  pub excludes : (theory : Theory) (steps : List Step) (n : ℕ) (cause : Cause) → IsFirstFault theory steps n cause
      → (trace : Trace) → IsExecution theory (newest_first steps) trace → ⊥
