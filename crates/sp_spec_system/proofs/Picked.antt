-- What is picked from two lists, one behind the other.
use Rattle.std.proofs.Common.{◌≡◌, List, [], ◌∷◌, ◌++◌, Option, Some, None, refl, ap, ◌∙◌}
use Rattle.std.specs.Option.{option_or}
use Rattle.sp_spec_system.specs.Picked.{first_some}

module _ {A B : Type 0} (pick : A → Option B) where
  pub first_some_append : (xs ys : List A) → first_some pick (xs ++ ys) ≡ option_or (first_some pick xs) (first_some pick ys)
  first_some_append [] ys = refl
  first_some_append (x ∷ xs) ys = ap (option_or (pick x)) (first_some_append xs ys) ∙ at (pick x)
    where
      at : (o : Option B) → option_or o (option_or (first_some pick xs) (first_some pick ys)) ≡ option_or (option_or o (first_some pick xs)) (first_some pick ys)
      at None = refl
      at (Some b) = refl
