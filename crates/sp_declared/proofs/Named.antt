-- The names of a formula are those of its atoms.
use Rattle.std.proofs.Common.{◌≡◌, ℕ, List, ◌∷◌, ◌++◌, refl, ap₂}
use Rattle.sp_spec.specs.Formula.{Written, Formula, truth, falsity, happens, equals, precedes, not_so, both, either, implies, for_all, for_some}
use Rattle.sp_spec.specs.Constants.{in_formula}
use Rattle.sp_walk.specs.Atoms.{collected}
use Rattle.sp_declared.specs.Constants.{names_at}

pub names_collected : (bs : List Written) (f : Formula) → collected (λ cs. names_at) bs f ≡ in_formula f
names_collected bs truth = refl
names_collected bs falsity = refl
names_collected bs (happens a i) = refl
names_collected bs (equals t u) = refl
names_collected bs (precedes i j) = refl
names_collected bs (not_so f) = names_collected bs f
names_collected bs (both f g) = ap₂ (λ (xs ys : List (List ℕ)). xs ++ ys) (names_collected bs f) (names_collected bs g)
names_collected bs (either f g) = ap₂ (λ (xs ys : List (List ℕ)). xs ++ ys) (names_collected bs f) (names_collected bs g)
names_collected bs (implies f g) = ap₂ (λ (xs ys : List (List ℕ)). xs ++ ys) (names_collected bs f) (names_collected bs g)
names_collected bs (for_all x f) = names_collected (x ∷ bs) f
names_collected bs (for_some x f) = names_collected (x ∷ bs) f
