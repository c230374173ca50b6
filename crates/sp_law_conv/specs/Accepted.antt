-- Which equations a theory may declare: read from left to right each leads to a proper part of its left side or to a constant, no destructor stands
-- below the root of a left side or in a right side, and where two left sides can become one term, the right sides do too. Such equations are
-- subterm-convergent. Source: Tamarin manual, "Cryptographic messages" (user-defined functions and equations).
use Rattle.std.specs.Prelude.{◌≡◌, ◌⊎◌, ◌<◌, ℕ, Bool, true, false, List, codes}
use Rattle.sp_spec.specs.Lists.{Member, AtPlace}
use Rattle.sp_spec.specs.Term.{Msg, Variable, Term, var, constant, name, app, Terms, none, more, count}
use Rattle.sp_spec.specs.Signature.{Symbol, Equation}
use Rattle.sp_law_equal.specs.Parts.{IsProperPart}
use Rattle.sp_law_conv.specs.Clash.{DoClash}

-- the term is an application of this symbol, over at least one argument
abbrev pub IsApplicationOf : List ℕ → ℕ → Term Variable → Type 0
IsApplicationOf f n (app g (more t ts)) = (g ≡ f) × (count (more t ts) ≡ n)
IsApplicationOf f n t = ⊥

-- a symbol at the root of some left side, and not that of pairs: a destructor, told by its name and its arity, whatever else the equation is like
pub record IsDestructorOf (es : List Equation) (f : List ℕ) (n : ℕ) : Type 0 where
  pub equation : Equation
  pub stands : Member equation es
  pub at_root : IsApplicationOf f n equation.left
  pub no_pair : f ≡ codes "pair" → ⊥

-- a term of constructors: variables of sort msg, and symbols that are no destructors
abbrev mutual
  pub IsOfConstructors : List Equation → Term Variable → Type 0
  IsOfConstructors es (var x) = x.sort ≡ Msg
  IsOfConstructors es (constant c) = ⊥
  IsOfConstructors es (name n) = ⊥
  IsOfConstructors es (app f ts) = (IsDestructorOf es f (count ts) → ⊥) × AreOfConstructors es ts

  pub AreOfConstructors : List Equation → Terms Variable → Type 0
  AreOfConstructors es none = Unit {0}
  AreOfConstructors es (more t ts) = IsOfConstructors es t × AreOfConstructors es ts

-- a symbol that is no pair over such terms, one at least
abbrev pub IsLeftSide : List Equation → Term Variable → Type 0
IsLeftSide es (app d (more t ts)) = (d ≡ codes "pair" → ⊥) × AreOfConstructors es (more t ts)
IsLeftSide es t = ⊥

-- a symbol of arity 0, private or not
abbrev pub IsConstant : List Symbol → Bool → Term Variable → Type 0
IsConstant symbols private (app c none) = Member (record { name = c; arity = 0; private = private }) symbols
IsConstant symbols private t = ⊥

-- the equation by itself is as it should be
pub record IsWellFormed (symbols : List Symbol) (es : List Equation) (e : Equation) : Type 0 where
  pub left : IsLeftSide es e.left
  pub right : IsOfConstructors es e.right
  pub leads : IsProperPart e.right e.left ⊎ IsConstant symbols false e.right

-- only that its right side is a constant that is private is wrong with it
pub record HasPrivateConstant (symbols : List Symbol) (es : List Equation) (e : Equation) : Type 0 where
  pub left : IsLeftSide es e.left
  pub right : IsOfConstructors es e.right
  pub private : IsConstant symbols true e.right
  pub wrong : IsWellFormed symbols es e → ⊥

-- something else is wrong with it
pub record HasWrongShape (symbols : List Symbol) (es : List Equation) (e : Equation) : Type 0 where
  pub wrong : IsWellFormed symbols es e → ⊥
  pub other : HasPrivateConstant symbols es e → ⊥

-- each equation is as it should be, and no two clash
pub record AreAccepted (symbols : List Symbol) (es : List Equation) : Type 0 where
  pub each : (e : Equation) → Member e es → IsWellFormed symbols es e
  pub agree : (j k : ℕ) (d e : Equation) → AtPlace es j d → AtPlace es k e → j < k → DoClash d e → ⊥
