-- Forms that are gone over, of which those that pass are added, unless the same stands there.
use Rattle.std.proofs.Common.{◌≡◌, Bool, true, false, ◌&&◌, cond, List, [], ◌∷◌, ◌++◌, map, sym, ap, ◌∙◌, subst}
use Rattle.std.proofs.lemmas.List.{map-append}
use Rattle.std.specs.List.{filter}
use Rattle.sp_spec.specs.Term.{Variable}
use Rattle.sp_spec.specs.Rule.{Facts}
use Rattle.sp_spec_forms.specs.Numbering.{Form, without_repeats}
use Rattle.sp_spec_forms.specs.Alike.{same_action}
use Rattle.sp_spec_forms.specs.Alike.{alike_fact, same_list}
use Rattle.sp_spec_forms.specs.Forms.{alike_form}
use Rattle.sp_law_forms.proofs.Irreducible.{alike_form_tells}
use Rattle.sp_variant.specs.Adding.{added_after}
use Rattle.sp_variant.proofs.Adding.{added_both, added_to_none}

abbrev alike_facts : Facts Variable → Facts Variable → Bool
alike_facts f g = same_list alike_fact f.premises g.premises && (same_list same_action f.actions g.actions && same_list alike_fact f.conclusions g.conclusions)

alike_along : (a b c : Form) → alike_form a b ≡ true → alike_form b c ≡ true → alike_form a c ≡ true
alike_along a b c e h = let Alike : Facts Variable → Type 0 = λ f. alike_facts f c.facts ≡ true in subst Alike (sym (alike_form_tells a b e)) h

pub forms_once : (forms : List Form) → added_after alike_form [] forms ≡ without_repeats alike_form forms
forms_once forms = added_to_none alike_form alike_along forms

filter_last : {A : Type 0} (p : A → Bool) (xs : List A) (x : A) → p x ≡ true → filter p (xs ++ x ∷ []) ≡ filter p xs ++ x ∷ []
filter_last p [] x e = ap (λ b. cond b (x ∷ []) []) e
filter_last p (y ∷ ys) x e = at (filter_last p ys x e) (p y)
  where
    at : filter p (ys ++ x ∷ []) ≡ filter p ys ++ x ∷ [] → (b : Bool) → cond b (y ∷ filter p (ys ++ x ∷ [])) (filter p (ys ++ x ∷ [])) ≡ cond b (y ∷ filter p ys) (filter p ys) ++ x ∷ []
    at h true = ap (λ zs. y ∷ zs) h
    at h false = h

-- one more that passes
pub added_last : {T : Type 0} (form_of : T → Form) (passes : Form → Bool) (gone : List T) (x : T) (before after : List Form) → passes (form_of x) ≡ true
    → before ≡ added_after alike_form [] (filter passes (map form_of gone)) → after ≡ added_after alike_form before (form_of x ∷ [])
    → after ≡ added_after alike_form [] (filter passes (map form_of (gone ++ x ∷ [])))
added_last form_of passes gone x before after e so added =
    added
    ∙ ap (λ fs. added_after alike_form fs (form_of x ∷ [])) so
    ∙ added_both alike_form [] (filter passes (map form_of gone)) (form_of x ∷ [])
    ∙ sym (ap (added_after alike_form []) (ap (filter passes) (map-append form_of gone (x ∷ [])) ∙ filter_last passes (map form_of gone) (form_of x) e))
