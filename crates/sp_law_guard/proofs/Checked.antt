-- A checked form is the formula's guarded form, with each variable guarded.
use Rattle.std.proofs.Common.{◌≡◌, Bool, true, false, ◌&&◌, not, if◌then◌else◌, [], Option, Some, None, refl, sym, ap, ◌∙◌}
use Rattle.sp_spec.specs.Formula.{Formula}
use Rattle.sp_spec.specs.Guarded.{Guarded}
use Rattle.sp_law_guard.specs.GuardedForm.{guarded_form}
use Rattle.sp_law_guard.specs.IsGuarded.{is_guarded}
use Rattle.sp_law_guard.specs.CheckedForm.{marks_fit, has_wide, if_right, checked_form}

pub form_checked : (f : Formula) (g : Guarded) → checked_form f ≡ Some g → (guarded_form [] f ≡ Some g) × (is_guarded g ≡ true)
form_checked f g e = at (guarded_form [] f) refl e
  where
    at : (o : Option Guarded) → guarded_form [] f ≡ o → if_right f o ≡ Some g → (guarded_form [] f ≡ Some g) × (is_guarded g ≡ true)
    at None k r = absurd cc
    at (Some h) k r = by (is_guarded h) (marks_fit [] f && not (has_wide f)) refl r
      where
        by : (b c : Bool) → is_guarded h ≡ b → (if b && c then Some h else None) ≡ Some g → (guarded_form [] f ≡ Some g) × (is_guarded g ≡ true)
        by true true i j = let s : h ≡ g = cc in (k ∙ ap (λ (x : Guarded). Some x) s, ap is_guarded (sym s) ∙ i)
        by true false i j = absurd cc
        by false c i j = absurd cc
