-- What holds of deciding truth.
use Rattle.std.specs.Prelude.{◌≡◌, ◌⊎◌, ◌↔◌, Bool, IsTrue, [], Some}
use Rattle.sp_spec.specs.Signature.{Signature}
use Rattle.sp_spec.specs.Formula.{Formula}
use Rattle.sp_spec.specs.Execution.{Trace}
use Rattle.sp_spec.specs.Truth.{IsTrueOver}
use Rattle.sp_spec.specs.Guarded.{Guarded, Assignment, GuardedHolds}
use Rattle.sp_law_guard.specs.GuardedForm.{guarded_form}
use Rattle.sp_law_decide.specs.Deciding.{assignment_of, decided, empty}
use Rattle.sp_law_decide.specs.Normal.{IsConstructorForm, HasConstructorTerms, CanDecide}

-- The answer is true exactly where the formula is: under the assignment where nothing is bound, and, if it is the guarded form of a formula,
-- under each assignment, and exactly where that formula is true. Quantifiers range over all ground terms of the sort over the signature.
pub record TellsTruth (trace : Trace) (g : Guarded) (answer : Bool) : Type 0 where
  pub guarded : (signature : Signature) → CanDecide signature trace g → IsTrue answer ↔ GuardedHolds signature trace (assignment_of empty) g
  pub form : (signature : Signature) → CanDecide signature trace g → (f : Formula) → guarded_form [] f ≡ Some g
      → (m : Assignment) → IsTrue answer ↔ GuardedHolds signature trace m g
  pub written : (signature : Signature) → CanDecide signature trace g → (f : Formula) → guarded_form [] f ≡ Some g → IsTrue answer ↔ IsTrueOver signature trace f

-- What is decided is the truth; so a formula is true or it isn't.
pub record TruthIsDecided : Type 0 where
  pub each : (trace : Trace) (g : Guarded) → TellsTruth trace g (decided trace empty g)
  pub either : (signature : Signature) (trace : Trace) (g : Guarded) → CanDecide signature trace g
      → GuardedHolds signature trace (assignment_of empty) g ⊎ (GuardedHolds signature trace (assignment_of empty) g → ⊥)
  pub form : (signature : Signature) (trace : Trace) (g : Guarded) → CanDecide signature trace g → (f : Formula) → guarded_form [] f ≡ Some g
      → (m : Assignment) → GuardedHolds signature trace m g ⊎ (GuardedHolds signature trace m g → ⊥)

-- The guarded form of a formula of constructor terms is of constructor terms.
pub record FormsKeepConstructors : Type 0 where
  pub each : (signature : Signature) (f : Formula) (g : Guarded) → HasConstructorTerms signature f → guarded_form [] f ≡ Some g → IsConstructorForm signature g
