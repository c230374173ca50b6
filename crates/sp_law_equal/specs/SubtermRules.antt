-- Subterm rules, a criterion on the equations themselves: read from left to right each leads to a proper part of its left side or to a constant,
-- no destructor stands below the root of a left side or in a right side, and where two left sides match one term the right sides agree. In the
-- field these are subterm-convergent. Source: Tamarin manual, "Cryptographic messages" (user-defined functions and equations).
use Rattle.std.specs.Prelude.{◌≡◌, ◌⊎◌, ℕ, List}
use Rattle.sp_spec.specs.Lists.{Member}
use Rattle.sp_spec.specs.Term.{Variable, Term, app, none, Values, valued}
use Rattle.sp_spec.specs.Signature.{Symbol, Equation, HasSymbol, RespectsSorts}
use Rattle.sp_law_equal.specs.Destructors.{IsPlain, ArePlain}
use Rattle.sp_law_equal.specs.Parts.{IsProperPart}

-- the term is an application, over arguments without destructors
abbrev pub IsPlainBelow : List Equation → Term Variable → Type 0
IsPlainBelow es (app f ts) = ArePlain es ts
IsPlainBelow es t = ⊥

-- a right side is a proper part of its left side, or a constant
abbrev pub IsSimple : Equation → Type 0
IsSimple e = IsProperPart e.right e.left ⊎ ((c : List ℕ) × (e.right ≡ app c none))

-- where instances of two left sides are the same term, the right sides are too
abbrev pub DoAgree : Equation → Equation → Type 0
DoAgree d e = (v w : Values) → RespectsSorts v → RespectsSorts w → valued v d.left ≡ valued w e.left → valued v d.right ≡ valued w e.right

pub record AreSubtermRules (es : List Equation) : Type 0 where
  pub left_plain : (e : Equation) → Member e es → IsPlainBelow es e.left
  pub right_plain : (e : Equation) → Member e es → IsPlain es e.right
  pub simple : (e : Equation) → Member e es → IsSimple e
  pub agree : (d e : Equation) → Member d es → Member e es → DoAgree d e

-- each right side is a proper part of its left side, or a constant that is one of the symbols
pub record BringInNoSymbols (symbols : List Symbol) (es : List Equation) : Type 0 where
  pub each : (e : Equation) → Member e es → IsProperPart e.right e.left ⊎ ((c : List ℕ) × (e.right ≡ app c none) × HasSymbol symbols c 0)
