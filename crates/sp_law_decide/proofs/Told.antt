-- What is decided tells the truth.
use Rattle.std.proofs.Common.{◌≡◌, ◌⊎◌, [], Some}
use Rattle.std.specs.Bool.{Decides}
use Rattle.sp_spec.specs.Signature.{Signature}
use Rattle.sp_spec.specs.Formula.{Formula}
use Rattle.sp_spec.specs.Execution.{Trace}
use Rattle.sp_spec.specs.Guarded.{Guarded, Assignment, GuardedHolds}
use Rattle.sp_law_equal.proofs.Decided.{or_not}
use Rattle.sp_law_truth.proofs.AsTrue.{as_turned, as_through}
use Rattle.sp_law_guard.specs.GuardedForm.{guarded_form}
use Rattle.sp_law_guard.proofs.Kept.{form_kept}
use Rattle.sp_law_decide.specs.Deciding.{assignment_of, decided, empty}
use Rattle.sp_law_decide.specs.Normal.{CanDecide}
use Rattle.sp_law_decide.specs.Laws.{TellsTruth}
use Rattle.sp_law_decide.proofs.Right.{closed_right}

module _ (signature : Signature) (trace : Trace) (g : Guarded) (can : CanDecide signature trace g) where
  right_there : Decides (decided trace empty g) (GuardedHolds signature trace (assignment_of empty) g)
  right_there = closed_right signature can.normal_forms can.keeps trace can.normal g can.constructors can.guarded

  -- a guarded form is as true under each assignment
  form_right : (f : Formula) → guarded_form [] f ≡ Some g → (m : Assignment) → Decides (decided trace empty g) (GuardedHolds signature trace m g)
  form_right f e m = as_through (as_through right_there (as_turned (form_kept signature trace f g e (assignment_of empty)))) (form_kept signature trace f g e m)

  pub true_or_not : GuardedHolds signature trace (assignment_of empty) g ⊎ (GuardedHolds signature trace (assignment_of empty) g → ⊥)
  true_or_not = or_not (decided trace empty g) right_there

  pub form_true_or_not : (f : Formula) → guarded_form [] f ≡ Some g → (m : Assignment) → GuardedHolds signature trace m g ⊎ (GuardedHolds signature trace m g → ⊥)
  form_true_or_not f e m = or_not (decided trace empty g) (form_right f e m)

pub told : (trace : Trace) (g : Guarded) → TellsTruth trace g (decided trace empty g)
told trace g = record {
  guarded = λ signature can. right_there signature trace g can;
  form = λ signature can f e m. form_right signature trace g can f e m;
  written = λ signature can f e. as_through (right_there signature trace g can) (as_turned (form_kept signature trace f g e (assignment_of empty)));
}
