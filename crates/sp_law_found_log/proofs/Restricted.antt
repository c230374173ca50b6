-- What is so of the restrictions' guarded forms, said of each restriction.
use Rattle.std.proofs.Common.{List, [], ◌∷◌, ◌++◌, Option, subst}
use Rattle.sp_spec.specs.Lists.{Every}
use Rattle.sp_spec.specs.Signature.{Signature}
use Rattle.sp_spec.specs.Theory.{Restriction}
use Rattle.sp_spec.specs.Guarded.{Guarded}
use Rattle.sp_law_basic.specs.Restrictions.{IsBasicRestriction, form_in, restriction_forms}

module _ (signature : Signature) (P : Guarded → Type 0) (Q : Restriction → Type 0) (each : (r : Restriction) (b : IsBasicRestriction signature r) → P b.form → Q r) where
  pub by_forms : (rs : List Restriction) → Every (IsBasicRestriction signature) rs → Every P (restriction_forms rs) → Every Q rs
  by_forms [] b h = tt
  by_forms (r ∷ rs) b h =
      let k : Every P (b.0.form ∷ restriction_forms rs) = subst (λ (o : Option Guarded). Every P (form_in o ++ restriction_forms rs)) b.0.form_is h in
      (each r b.0 k.0, by_forms rs b.1 k.1)
