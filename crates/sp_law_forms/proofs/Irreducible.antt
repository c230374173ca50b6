-- A term whose value is normal is irreducible; forms that are alike have the same facts.
use Rattle.std.proofs.Common.{◌≡◌, Bool, true, false, not, List, refl, sym, ap, ◌∙◌}
use Rattle.std.proofs.lemmas.Bool.{and_from}
use Rattle.std.specs.List.{list_any}
use Rattle.sp_spec.specs.Lists.{Member}
use Rattle.sp_spec.specs.Term.{Variable, Term, var, constant, name, app, Terms, none, more, Values, valued, valued_all}
use Rattle.sp_spec.specs.Signature.{Equation, HasSort, RespectsSorts}
use Rattle.sp_spec.specs.Equal.{IsNormal, AreNormal, MatchesNone}
use Rattle.sp_spec.proofs.Values.{valued-valued}
use Rattle.sp_spec_forms.proofs.Alike.{alike_facts_tells}
use Rattle.sp_law_unify.proofs.Sorts.{ground_sorts, sort_of_value}
use Rattle.sp_spec_forms.specs.Reducible.{is_matched, irreducible, irreducible_all}
use Rattle.sp_spec_forms.specs.Forms.{alike_form}
use Rattle.sp_spec_forms.specs.Numbering.{Form}
use Rattle.sp_law_forms.proofs.Lists.{none_passes}
use Rattle.sp_law_forms.proofs.Facts.{after}
use Rattle.sp_law_forms.proofs.Matched.{matched_instance}

module _ (es : List Equation) (w : Values) (sorts : RespectsSorts w) where
  -- a left side that matches the term matches its value
  not_matched : (t : Term Variable) → MatchesNone es (valued w t) → (e : Equation) → Member e es → is_matched t e ≡ false
  not_matched t h e m = by_test (is_matched t e) refl
    where
      by_test : (c : Bool) → is_matched t e ≡ c → c ≡ false
      by_test false k = refl
      by_test true k =
          let i = matched_instance t e k in
          absurd (h e m (after w i.0) (λ x. sort_of_value HasSort ground_sorts w sorts x.sort (i.0 x) (i.1 x))
          (sym (valued-valued i.0 w e.left) ∙ ap (valued w) i.2))

  mutual
    irreducible_if : (t : Term Variable) → IsNormal es (valued w t) → irreducible es t ≡ true
    irreducible_if (var x) h = refl
    irreducible_if (constant c) h = refl
    irreducible_if (name k) h = refl
    irreducible_if (app f ts) h =
        and_from (irreducible_all es ts) (not (list_any (is_matched (app f ts)) es)) (irreducible_all_if ts h.0)
        (ap not (none_passes (is_matched (app f ts)) es (not_matched (app f ts) h.1)))

    pub irreducible_all_if : (ts : Terms Variable) → AreNormal es (valued_all w ts) → irreducible_all es ts ≡ true
    irreducible_all_if none h = refl
    irreducible_all_if (more t ts) h = and_from (irreducible es t) (irreducible_all es ts) (irreducible_if t h.0) (irreducible_all_if ts h.1)

pub alike_form_tells : (a b : Form) → alike_form a b ≡ true → a.facts ≡ b.facts
alike_form_tells a b e = alike_facts_tells a.facts b.facts e
