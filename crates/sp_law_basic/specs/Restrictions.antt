-- Restrictions that a proof begins from, and their guarded forms. Source: Tamarin manual, "Property specification" (restrictions); Schmidt's thesis, "Axioms".
use Rattle.std.specs.Prelude.{◌≡◌, false, List, [], ◌∷◌, ◌++◌, Option, Some, None}
use Rattle.sp_spec.specs.Signature.{Signature}
use Rattle.sp_spec.specs.Theory.{Restriction}
use Rattle.sp_spec.specs.Guarded.{Guarded}
use Rattle.sp_spec.specs.Verdict.{names_learning}
use Rattle.sp_law_guard.specs.CheckedForm.{checked_form}
use Rattle.sp_law_basic.specs.BasicTheory.{IsBasicFormula}

-- a basic formula that has a guarded form without findings, and that doesn't speak of learning
pub record IsBasicRestriction (signature : Signature) (r : Restriction) : Type 0 where
  pub basic : IsBasicFormula signature r.formula
  pub form : Guarded
  pub form_is : checked_form r.formula ≡ Some form
  pub unlearnt : names_learning r.formula ≡ false

abbrev pub form_in : Option Guarded → List Guarded
form_in (Some g) = g ∷ []
form_in None = []

-- their guarded forms, in the order of the text
abbrev pub restriction_forms : List Restriction → List Guarded
restriction_forms [] = []
restriction_forms (r ∷ rs) = form_in (checked_form r.formula) ++ restriction_forms rs
