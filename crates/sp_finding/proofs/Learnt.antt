-- A formula names the action of learning where one of its atoms is one.
use Rattle.std.proofs.Common.{◌≡◌, Bool, ◌||◌, refl, ap₂}
use Rattle.sp_spec.specs.Formula.{Formula, truth, falsity, happens, equals, precedes, not_so, both, either, implies, for_all, for_some}
use Rattle.sp_spec.specs.Verdict.{names_learning}
use Rattle.sp_walk.specs.Atoms.{any_atom}
use Rattle.sp_finding.specs.Learning.{is_learning}

pub any_learning : (f : Formula) → any_atom is_learning f ≡ names_learning f
any_learning truth = refl
any_learning falsity = refl
any_learning (happens a i) = refl
any_learning (equals t u) = refl
any_learning (precedes i j) = refl
any_learning (not_so f) = any_learning f
any_learning (both f g) = ap₂ (λ (a b : Bool). a || b) (any_learning f) (any_learning g)
any_learning (either f g) = ap₂ (λ (a b : Bool). a || b) (any_learning f) (any_learning g)
any_learning (implies f g) = ap₂ (λ (a b : Bool). a || b) (any_learning f) (any_learning g)
any_learning (for_all x f) = any_learning f
any_learning (for_some x f) = any_learning f
