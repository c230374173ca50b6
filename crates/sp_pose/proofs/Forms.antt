-- Lemmas and restrictions that were read, and their guarded forms.
use Rattle.std.proofs.Common.{◌≡◌, ℕ, List, [], ◌∷◌, ◌++◌, map, Option, Some, None, option_map, option_and_then, refl, sym, ap, ap₂, ◌∙◌}
use Rattle.std.proofs.lemmas.List.{map-append}
use Rattle.sp_spec.specs.Theory.{Restriction, Lemma}
use Rattle.sp_spec.specs.Guarded.{Guarded}
use Rattle.sp_law_guard.specs.CheckedForm.{checked_form}
use Rattle.sp_law_basic.specs.Restrictions.{form_in, restriction_forms}
use Rattle.sp_read_parts.specs.Formulas.{formula}
use Rattle.sp_spec_text.specs.Written.{WrittenText, lemmas_in}
use Rattle.sp_spec_text.specs.Declared.{theory_in}
use Rattle.sp_written.specs.Views as view
use Rattle.sp_written.specs.declared.theory.Item.{Item}
use Rattle.sp_written.specs.declared.theory.Item.TheVariants as i
use Rattle.sp_written.specs.declared.theory.WrittenLemma.{WrittenLemma}
use Rattle.sp_pose.specs.Required.{Required, required_by, all_required}
use Rattle.sp_pose.specs.Asked.{Asked, asked_with, lemmas_read, all_asked}
use Rattle.sp_pose.specs.Posed.{IsPosedBy}
use Rattle.sp_pose.specs.declared.problem.Problem.{Problem}

abbrev pub AreForms : List WrittenLemma → List Guarded → Type 0
AreForms [] [] = Unit {0}
AreForms [] (g ∷ gs) = ⊥
AreForms (l ∷ ls) [] = ⊥
AreForms (l ∷ ls) (g ∷ gs) = (checked_form (formula l.formula) ≡ Some g) × AreForms ls gs

abbrev pub asked_list : List WrittenLemma → List Guarded → List Asked
asked_list (l ∷ ls) (g ∷ gs) = asked_with l g ∷ asked_list ls gs
asked_list ls gs = []

pub record HasForms (ls : List WrittenLemma) (as' : List Asked) : Type 0 where
  pub forms : List Guarded
  pub are : AreForms ls forms
  pub is : as' ≡ asked_list ls forms

pub has_forms : (ls : List WrittenLemma) (as' : List Asked) → all_asked ls ≡ Some as' → HasForms ls as'
has_forms [] as' e = record { forms = []; are = tt; is = cc }
has_forms (l ∷ ls) as' e = at (checked_form (formula l.formula)) refl (all_asked ls) refl e (λ bs k. has_forms ls bs k)
  where
    at : (o : Option Guarded) → checked_form (formula l.formula) ≡ o → (later : Option (List Asked)) → all_asked ls ≡ later
        → option_and_then (λ (g : Guarded). option_map (λ (bs : List Asked). asked_with l g ∷ bs) later) o ≡ Some as' → ((bs : List Asked) → all_asked ls ≡ Some bs → HasForms ls bs) → HasForms (l ∷ ls) as'
    at None is later k e again = absurd cc
    at (Some g) is None k e again = absurd cc
    at (Some g) is (Some bs) k e again =
        let h = again bs k in
        let same : asked_with l g ∷ bs ≡ as' = cc in
        record { forms = g ∷ h.forms; are = (is, h.are); is = sym same ∙ ap (λ (cs : List Asked). asked_with l g ∷ cs) h.is }

lemmas_same : (xs : List Item) → lemmas_in (view.items xs) ≡ map view.lemma (lemmas_read xs)
lemmas_same [] = refl
lemmas_same (i.Builtins b ∷ xs) = lemmas_same xs
lemmas_same (i.Functions f ∷ xs) = lemmas_same xs
lemmas_same (i.Equations e ∷ xs) = lemmas_same xs
lemmas_same (i.Heuristic ws ∷ xs) = lemmas_same xs
lemmas_same (i.Block w ∷ xs) = lemmas_same xs
lemmas_same (i.Rule r ∷ xs) = lemmas_same xs
lemmas_same (i.Restriction r ∷ xs) = lemmas_same xs
lemmas_same (i.Lemma l ∷ xs) = ap (λ (ls : List Lemma). view.lemma l ∷ ls) (lemmas_same xs)

-- the lemmas in memory are those that the text says
pub lemmas_said : {text : List ℕ} (p : Problem) (posed : IsPosedBy text p) → (theory_in posed.said).lemmas ≡ map view.lemma (lemmas_read posed.theory.items.items)
lemmas_said p posed = ap (λ (t : WrittenText). lemmas_in t.items) (sym posed.resolved_is) ∙ lemmas_same posed.theory.items.items

-- ---- restrictions

-- their guarded forms
pub required_forms : (rs : List Restriction) → map (λ (q : Required). q.form) (all_required rs) ≡ restriction_forms rs
required_forms [] = refl
required_forms (r ∷ rs) =
    map-append (λ (q : Required). q.form) (required_by r.name (checked_form r.formula)) (all_required rs)
    ∙ ap₂ (λ (gs hs : List Guarded). gs ++ hs) (one_form r.name (checked_form r.formula)) (required_forms rs)
  where
    one_form : (name : List ℕ) (o : Option Guarded) → map (λ (q : Required). q.form) (required_by name o) ≡ form_in o
    one_form name None = refl
    one_form name (Some g) = refl
