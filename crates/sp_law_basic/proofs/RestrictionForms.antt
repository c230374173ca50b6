-- What holds of the guarded form of each restriction holds of the formulas that a proof begins from for them.
use Rattle.std.proofs.Common.{◌≡◌, List, [], ◌∷◌, Option, Some, None, refl}
use Rattle.sp_spec.specs.Lists.{Every}
use Rattle.sp_spec.specs.Theory.{Restriction}
use Rattle.sp_spec.specs.Guarded.{Guarded}
use Rattle.sp_spec.proofs.Lists.{every_append}
use Rattle.sp_law_guard.specs.CheckedForm.{checked_form}
use Rattle.sp_law_basic.specs.Restrictions.{form_in, restriction_forms}

pub every_form : (P : Guarded → Type 0) (Q : Restriction → Type 0) → ((r : Restriction) (g : Guarded) → checked_form r.formula ≡ Some g → Q r → P g)
    → (rs : List Restriction) → Every Q rs → Every P (restriction_forms rs)
every_form P Q step [] h = tt
every_form P Q step (r ∷ rs) h = every_append P (form_in (checked_form r.formula)) (restriction_forms rs) (at (checked_form r.formula) refl) (every_form P Q step rs h.1)
  where
    at : (o : Option Guarded) → checked_form r.formula ≡ o → Every P (form_in o)
    at None e = tt
    at (Some g) e = (step r g e h.0, tt)
