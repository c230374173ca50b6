-- What holds of guarded forms.
use Rattle.std.specs.Prelude.{◌≡◌, ◌↔◌, zero, true, List, [], Some}
use Rattle.sp_spec.specs.Lists.{Member, Every}
use Rattle.sp_spec.specs.Signature.{Signature}
use Rattle.sp_spec.specs.Formula.{Written, Formula}
use Rattle.sp_spec.specs.Execution.{Trace}
use Rattle.sp_spec.specs.Truth.{IsTrueOver}
use Rattle.sp_spec.specs.Guarded.{Guarded, Assignment, GuardedHolds}
use Rattle.sp_law_truth.specs.Shown.{action_names, IsTimed}
use Rattle.sp_law_guard.specs.GuardedForm.{negate, guarded_form}
use Rattle.sp_law_guard.specs.IsGuarded.{is_guarded}
use Rattle.sp_law_guard.specs.Symbols.{symbols_of}
use Rattle.sp_law_guard.specs.Closed.{IsClosed}
use Rattle.sp_law_guard.specs.Proper.{IsProper}

-- A negation is true exactly where the formula isn't.
pub record NegationTurnsTruth : Type 0 where
  pub each : (signature : Signature) (trace : Trace) (m : Assignment) (g : Guarded) → GuardedHolds signature trace m (negate g) ↔ (GuardedHolds signature trace m g → ⊥)

-- Negating twice gives the formula back, if it is as the guarded forms are.
pub record NegationIsAnInvolution : Type 0 where
  pub each : (g : Guarded) → IsProper g → negate (negate g) ≡ g
  pub forms : (bs : List Written) (f : Formula) (g : Guarded) → guarded_form bs f ≡ Some g → IsProper g
  pub negations : (g : Guarded) → IsProper g → IsProper (negate g)

-- The guarded form of a closed formula is as true as the formula, whatever the values of other variables.
pub record GuardedFormKeepsTruth : Type 0 where
  pub each : (signature : Signature) (trace : Trace) (f : Formula) (g : Guarded) → guarded_form [] f ≡ Some g
      → (m : Assignment) → IsTrueOver signature trace f ↔ GuardedHolds signature trace m g

-- Where each variable is guarded, each time is bound within the form, and stands in an action of its quantifier's guard.
pub record GuardedFormsAreTimed : Type 0 where
  pub each : (f : Formula) (g : Guarded) → guarded_form [] f ≡ Some g → is_guarded g ≡ true → IsTimed zero g

-- The form speaks of the formula's actions alone.
pub record GuardedFormsName : Type 0 where
  pub each : (f : Formula) (g : Guarded) → guarded_form [] f ≡ Some g → Every (λ s. Member s (symbols_of f)) (action_names g)

-- Each variable and each time of the form is bound by a quantifier.
pub record GuardedFormsAreClosed : Type 0 where
  pub each : (f : Formula) (g : Guarded) → guarded_form [] f ≡ Some g → IsClosed g
