-- Whether an atom passes: of an equivalence each side counts once, of quantifiers in a row what stands in their reach, and of a chain each part.
use Rattle.std.proofs.Common.{◌≡◌, Bool, true, false, ◌||◌, List, [], ◌∷◌, refl}
use Rattle.sp_spec.specs.Formula.{Written, Formula}
use Rattle.sp_spec_text.specs.Shapes.{quantified}
use Rattle.sp_spec_text.specs.Formulas.{quantified_some}
use Rattle.sp_read_parts.specs.Formulas.{Joint, conjoint, disjoint, join}
use Rattle.sp_walk.specs.Atoms.{Atom, any_atom}

pub either_way : (x y : Bool) → (x || y) ≡ ((x || y) || (y || x))
either_way true y = refl
either_way false true = refl
either_way false false = refl

module _ (passes : Atom → Bool) where
  pub any_for_all : (xs : List Written) (f : Formula) → any_atom passes f ≡ any_atom passes (quantified xs f)
  any_for_all [] f = refl
  any_for_all (x ∷ xs) f = any_for_all xs f

  pub any_for_some : (xs : List Written) (f : Formula) → any_atom passes f ≡ any_atom passes (quantified_some xs f)
  any_for_some [] f = refl
  any_for_some (x ∷ xs) f = any_for_some xs f

  pub any_joined : (o : Joint) (f g : Formula) → any_atom passes (join o f g) ≡ (any_atom passes f || any_atom passes g)
  any_joined conjoint f g = refl
  any_joined disjoint f g = refl
