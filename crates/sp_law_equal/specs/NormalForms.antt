-- Equations over which each term has one normal form.
use Rattle.std.specs.Prelude.{◌≡◌, ◌↔◌, List}
use Rattle.sp_spec.specs.Term.{Ground}
use Rattle.sp_spec.specs.Signature.{Symbol, Equation, Signature, IsOver}
use Rattle.sp_spec.specs.Equal.{Equal, IsNormal}
use Rattle.sp_law_equal.specs.Normal.{normal}
use Rattle.sp_law_equal.specs.Right.{EquationsAreOver, HaveNoNames}

-- Each term has one normal form, which `normal` computes, and terms are equal exactly where their normal forms are the same: in the field, the
-- equations read from left to right are convergent.
pub record HaveNormalForms (es : List Equation) : Type 0 where
  pub is_normal : (t : Ground) → IsNormal es (normal es t)
  pub equal : (t : Ground) → Equal es t (normal es t)
  pub decides : (t u : Ground) → Equal es t u ↔ (normal es t ≡ normal es u)

-- and it brings in no symbols
pub record KeepSymbols (symbols : List Symbol) (es : List Equation) : Type 0 where
  pub kept : (t : Ground) → IsOver symbols t → IsOver symbols (normal es t)

-- the equations are over the symbols and without names, each term has one normal form, and that of a term over the signature is over it
pub record HasNormalForms (signature : Signature) : Type 0 where
  pub normal_forms : HaveNormalForms signature.equations
  pub keeps : KeepSymbols signature.symbols signature.equations
  pub over : EquationsAreOver signature.symbols signature.equations
  pub nameless : HaveNoNames signature.equations
