-- What holds of induction over traces, the newest entry first.
use Rattle.std.specs.Prelude.{◌≡◌, ◌⊎◌, ◌↔◌, ℕ, zero, true, List, ◌∷◌}
use Rattle.sp_spec.specs.Lists.{Member, Every, Classically}
use Rattle.sp_spec.specs.Rule.{Action}
use Rattle.sp_spec.specs.Signature.{Signature}
use Rattle.sp_spec.specs.Execution.{Trace}
use Rattle.sp_spec.specs.Guarded.{Guarded, Assignment, GuardedHolds}
use Rattle.sp_law_truth.specs.Shown.{action_names, IsTimed}
use Rattle.sp_law_guard.specs.Closed.{IsClosed}
use Rattle.sp_law_induction.specs.Hypothesis.{hypothesis, is_safety}
use Rattle.sp_law_induction.specs.Prefix.{IsPrefix, IsShortest}
use Rattle.sp_law_induction.specs.Covering.{IsCase}

-- Of a formula whose times are all bound in it, and that speaks of no last time.
pub record HypothesisSpeaksOfThePast : Type 0 where
  pub each : (signature : Signature) (entry : List (Action ⊥)) (past : Trace) (m : Assignment) (f : Guarded) → IsTimed zero f
      → GuardedHolds signature (entry ∷ past) m (hypothesis f) ↔ GuardedHolds signature past m f

-- A safety formula that is true over a trace is so over each of its prefixes.
pub record SafetyHoldsBefore : Type 0 where
  pub each : (signature : Signature) (trace older : Trace) → IsPrefix older trace → (m : Assignment) (f : Guarded) → IsTimed zero f → is_safety f ≡ true
      → GuardedHolds signature trace m f → GuardedHolds signature older m f

-- A formula that is false over a trace is so over a shortest of its prefixes: classically, and as a fact where its truth is decided.
pub record ThereIsAShortest : Type 0 where
  pub classical : (signature : Signature) (m : Assignment) (f : Guarded) (trace : Trace) → (GuardedHolds signature trace m f → ⊥)
      → Classically ((older : Trace) × IsShortest (λ t. GuardedHolds signature t m f) trace older)
  pub decided : (signature : Signature) (m : Assignment) (f : Guarded) → ((t : Trace) → GuardedHolds signature t m f ⊎ (GuardedHolds signature t m f → ⊥))
      → (trace : Trace) → (GuardedHolds signature trace m f → ⊥) → (older : Trace) × IsShortest (λ t. GuardedHolds signature t m f) trace older

-- Where a lemma is false over a trace that meets the restrictions, one of the two cases of induction is met by a prefix of the trace.
pub record CasesCoverTraces : Type 0 where
  pub each : (signature : Signature) (m : Assignment) (restrictions : List Guarded) (lemma : Guarded) → Every (IsTimed zero) restrictions → IsTimed zero lemma
      → (trace : Trace) → Every (GuardedHolds signature trace m) restrictions → (GuardedHolds signature trace m lemma → ⊥)
      → Classically ((older : Trace) × IsCase signature m restrictions lemma trace older)

-- The hypothesis of a closed formula is closed, and speaks of no action that the formula doesn't speak of.
pub record HypothesisIsClosed : Type 0 where
  pub closed : (f : Guarded) → IsClosed f → IsClosed (hypothesis f)
  pub named : (names : List (List ℕ)) (f : Guarded) → Every (λ s. Member s names) (action_names f) → Every (λ s. Member s names) (action_names (hypothesis f))
