-- Destructors: the symbols at the roots of left sides of equations, and the terms without any.
use Rattle.std.specs.Prelude.{◌≡◌, ℕ, List}
use Rattle.sp_spec.specs.Lists.{Member}
use Rattle.sp_spec.specs.Term.{Variable, Term, app, Terms, none, more}
use Rattle.sp_spec.specs.Signature.{Equation}

-- the term is an application of the symbol
abbrev pub HasRoot : {V : Type 0} → List ℕ → Term V → Type 0
HasRoot f (app g ts) = g ≡ f
HasRoot f t = ⊥

-- a symbol at the root of some left side
abbrev pub IsDestructor : List Equation → List ℕ → Type 0
IsDestructor es f = (e : Equation) × Member e es × HasRoot f e.left

-- no destructor stands in the term
abbrev mutual
  pub IsPlain : List Equation → Term Variable → Type 0
  IsPlain es (app f ts) = (IsDestructor es f → ⊥) × ArePlain es ts
  IsPlain es t = Unit {0}

  pub ArePlain : List Equation → Terms Variable → Type 0
  ArePlain es none = Unit {0}
  ArePlain es (more t ts) = IsPlain es t × ArePlain es ts
