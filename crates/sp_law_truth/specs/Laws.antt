-- What holds of truth.
use Rattle.std.specs.Prelude.{◌↔◌, ℕ, zero, List}
use Rattle.sp_spec.specs.Lists.{Member, Every, Classically}
use Rattle.sp_spec.specs.Signature.{Signature}
use Rattle.sp_spec.specs.Formula.{Formula}
use Rattle.sp_spec.specs.Execution.{Trace}
use Rattle.sp_spec.specs.Truth.{Environment, IsTrueIn}
use Rattle.sp_spec.specs.Guarded.{Guarded, Assignment, GuardedHolds}
use Rattle.sp_law_truth.specs.Shown.{shown, action_names, IsTimed}
use Rattle.sp_law_truth.specs.Same.{EqualTraces, EqualAssignments}

-- What isn't false is true.
pub record TruthIsClassical : Type 0 where
  pub written : (signature : Signature) (trace : Trace) (env : Environment) (f : Formula) → Classically (IsTrueIn signature trace env f) → IsTrueIn signature trace env f
  pub guarded : (signature : Signature) (trace : Trace) (m : Assignment) (f : Guarded) → Classically (GuardedHolds signature trace m f) → GuardedHolds signature trace m f

-- Equal values, and traces with equal actions, make a formula as true.
pub record EqualValuesKeepTruth : Type 0 where
  pub each : (signature : Signature) (trace other : Trace) → EqualTraces signature.equations trace other
      → (m w : Assignment) → EqualAssignments signature.equations m w → (f : Guarded) → GuardedHolds signature trace m f ↔ GuardedHolds signature other w f

-- A formula that names these actions alone, and whose times all have an action in their guards, is as true over traces that are
-- equal once other actions and then entries without actions are left out.
pub record LeavingOutKeepsTruth : Type 0 where
  pub each : (signature : Signature) (names : List (List ℕ)) (trace other : Trace) → EqualTraces signature.equations (shown names trace) (shown names other)
      → (f : Guarded) → IsTimed zero f → Every (λ s. Member s names) (action_names f)
      → (m : Assignment) → GuardedHolds signature trace m f ↔ GuardedHolds signature other m f
