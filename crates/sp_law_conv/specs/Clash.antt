-- Whether two equations clash: renamed apart, their left sides have a unifier under which their right sides differ. Source: Baader and Nipkow,
-- "Term Rewriting and All That", chapter 6 (critical pairs).
use Rattle.std.specs.Prelude.{◌≡◌, ℕ, ◌+◌, List, [], ◌∷◌, Some}
use Rattle.sp_spec.specs.Term.{valued}
use Rattle.sp_spec.specs.Signature.{Equation}
use Rattle.sp_spec.specs.Substitution.{Binding, bound_to}
use Rattle.sp_spec.specs.Unifier.{Pair, mgu}
use Rattle.sp_spec_forms.specs.Shifted.{above, shifted}

-- the second equation's variables have numbers from this on
abbrev pub apart : Equation → ℕ
apart d = above d.left + above d.right

-- the left sides, with no variable in common
abbrev pub overlap : Equation → Equation → List Pair
overlap d e = (d.left, shifted (apart d) e.left) ∷ []

-- by these bindings
pub record DoClashBy (d e : Equation) (bs : List Binding) : Type 0 where
  pub unified : mgu (overlap d e) ≡ Some bs
  pub differ : valued (bound_to bs) d.right ≡ valued (bound_to bs) (shifted (apart d) e.right) → ⊥

abbrev pub DoClash : Equation → Equation → Type 0
DoClash d e = (bs : List Binding) × DoClashBy d e bs
