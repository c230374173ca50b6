-- A rule without destructors has one form: itself, numbered.
use Rattle.std.proofs.Common.{◌≡◌, ℕ, Bool, true, false, not, cond, List, [], ◌∷◌, ◌++◌, map, refl, sym, ap, ap₂, ◌∙◌}
use Rattle.std.proofs.lemmas.Bool.{and_from}
use Rattle.std.specs.List.{filter, flat_map, list_any}
use Rattle.sp_spec.specs.Lists.{Member, Every}
use Rattle.sp_spec.specs.Term.{Variable, Term, var, constant, name, app, Terms, none, more, Values, valued, valued_all}
use Rattle.sp_spec.specs.Signature.{Equation, HasSort}
use Rattle.sp_spec.specs.Unifier.{mgu}
use Rattle.sp_spec.specs.Rule.{OfArguments, Fact, Action, Facts, Rule}
use Rattle.sp_law_equal.specs.Destructors.{IsDestructor, IsPlain, ArePlain}
use Rattle.sp_law_equal.specs.NormalForms.{HaveNormalForms}
use Rattle.sp_law_equal.specs.Matching.{any_of}
use Rattle.sp_law_equal.proofs.Matches.{any_has_sort}
use Rattle.sp_law_equal.proofs.Plain.{plain_matches_none}
use Rattle.sp_spec.proofs.Values.{valued-valued}
use Rattle.sp_law_unify.proofs.Sorts.{ground_sorts, sort_of_value}
use Rattle.sp_law_system.proofs.TermValues.{valued_var_all}
use Rattle.sp_spec_forms.specs.Narrowing.{Chosen, both, each, narrow_fact, narrow_action, narrow_facts}
use Rattle.sp_spec_forms.specs.Reducible.{is_matched, irreducible, irreducible_all, args_of}
use Rattle.sp_spec_forms.specs.Forms.{is_normal_form, alike_form, form_by, results, forms}
use Rattle.sp_spec_forms.specs.Numbering.{Form, seen, place, renumbered, numbered, without_repeats}
use Rattle.sp_law_forms.specs.Laws.{PlainRulesStay}
use Rattle.sp_law_forms.proofs.Lists.{none_passes, all_pass}
use Rattle.sp_law_forms.proofs.Plain.{narrow_all_plain}
use Rattle.sp_law_forms.proofs.Matched.{matched_instance}
use Rattle.sp_law_forms.proofs.Facts.{after, facts_itself, of_arguments, args_at}
use Rattle.sp_law_forms.proofs.Proper.{begin, variables_of}

module _ (es : List Equation) (good : HaveNormalForms es) where
  abbrev Plain : Terms Variable → Type 0
  Plain = ArePlain es

  facts_plain : (fs : List (Fact Variable)) (s : Chosen) → Every (λ (f : Fact Variable). Plain f.args) fs → each (narrow_fact es) fs s ≡ (fs, s) ∷ []
  facts_plain [] s p = refl
  facts_plain (f ∷ fs) s p =
      ap (λ rs. flat_map (λ (r : Fact Variable × Chosen). map (λ (q : List (Fact Variable) × Chosen). (r.0 ∷ q.0, q.1)) (each (narrow_fact es) fs r.1))
      (map (λ (r : Terms Variable × Chosen). (record { symbol = f.symbol; persistent = f.persistent; args = r.0 }, r.1)) rs)) (narrow_all_plain es good f.args s p.0)
      ∙ ap (λ qs. map (λ (q : List (Fact Variable) × Chosen). (f ∷ q.0, q.1)) qs ++ []) (facts_plain fs s p.1)

  actions_plain : (xs : List (Action Variable)) (s : Chosen) → Every (λ (a : Action Variable). Plain a.args) xs → each (narrow_action es) xs s ≡ (xs, s) ∷ []
  actions_plain [] s p = refl
  actions_plain (a ∷ xs) s p =
      ap (λ rs. flat_map (λ (r : Action Variable × Chosen). map (λ (q : List (Action Variable) × Chosen). (r.0 ∷ q.0, q.1)) (each (narrow_action es) xs r.1))
      (map (λ (r : Terms Variable × Chosen). (record { symbol = a.symbol; args = r.0 }, r.1)) rs)) (narrow_all_plain es good a.args s p.0)
      ∙ ap (λ qs. map (λ (q : List (Action Variable) × Chosen). (a ∷ q.0, q.1)) qs ++ []) (actions_plain xs s p.1)

  -- nothing is chosen in facts without destructors
  narrow_facts_plain : (f : Facts Variable) (s : Chosen) → OfArguments Plain f → narrow_facts es f s ≡ (f, s) ∷ []
  narrow_facts_plain f s h =
      let made : List (Fact Variable) → List (Action Variable) × List (Fact Variable) → Facts Variable = λ ps r. record { premises = ps; actions = r.0; conclusions = r.1 } in
      let Rest : Type 0 = (List (Action Variable) × List (Fact Variable)) × Chosen in
      let rest : Chosen → List Rest = both (λ as' cs. (as', cs)) (each (narrow_action es) f.actions) (each (narrow_fact es) f.conclusions) in
      let rest_is : rest s ≡ ((f.actions, f.conclusions), s) ∷ [] =
      ap (flat_map (λ (r : List (Action Variable) × Chosen). map (λ (q : List (Fact Variable) × Chosen). ((r.0, q.0), q.1)) (each (narrow_fact es) f.conclusions r.1)))
      (actions_plain f.actions s h.actions)
      ∙ ap (λ qs. map (λ (q : List (Fact Variable) × Chosen). ((f.actions, q.0), q.1)) qs ++ []) (facts_plain f.conclusions s h.conclusions) in
      ap (flat_map (λ (r : List (Fact Variable) × Chosen). map (λ (q : Rest). (made r.0 q.0, q.1)) (rest r.1)))
      (facts_plain f.premises s h.premises)
      ∙ ap (λ qs. map (λ (q : Rest). (made f.premises q.0, q.1)) qs ++ []) rest_is

  -- no left side matches a term without destructors
  not_there : (f : List ℕ) (us : Terms Variable) (e : Equation) → Member e es → (IsDestructor es f → ⊥) → is_matched (app f us) e ≡ false
  not_there f us e m other = by_test (is_matched (app f us) e) refl
    where
      some_values : Values
      some_values x = any_of x.sort

      by_test : (c : Bool) → is_matched (app f us) e ≡ c → c ≡ false
      by_test false k = refl
      by_test true k =
          let i = matched_instance (app f us) e k in
          absurd (plain_matches_none es good f (valued_all some_values us) other e m (after some_values i.0)
          (λ x. sort_of_value HasSort ground_sorts some_values (λ y. any_has_sort y.sort) x.sort (i.0 x) (i.1 x))
          (sym (valued-valued i.0 some_values e.left) ∙ ap (valued some_values) i.2))

  mutual
    irreducible_plain : (s : Variable → Variable) (t : Term Variable) → IsPlain es t → irreducible es (valued (λ x. var (s x)) t) ≡ true
    irreducible_plain s (var x) p = refl
    irreducible_plain s (constant c) p = refl
    irreducible_plain s (name k) p = refl
    irreducible_plain s (app f ts) p =
        let us = valued_all (λ x. var (s x)) ts in
        and_from (irreducible_all es us) (not (list_any (is_matched (app f us)) es)) (irreducible_all_plain s ts p.1)
        (ap not
        (none_passes (is_matched (app f us)) es
        (λ e m. not_there f us e m p.0)))

    irreducible_all_plain : (s : Variable → Variable) (ts : Terms Variable) → ArePlain es ts → irreducible_all es (valued_all (λ x. var (s x)) ts) ≡ true
    irreducible_all_plain s none p = refl
    irreducible_all_plain s (more t ts) p =
        and_from (irreducible es (valued (λ x. var (s x)) t)) (irreducible_all es (valued_all (λ x. var (s x)) ts)) (irreducible_plain s t p.0) (irreducible_all_plain s ts p.1)

  module _ (rule : Rule) (plain : OfArguments Plain rule.facts) where
    abbrev itself : Form
    itself = numbered rule.facts (variables_of rule)

    itself_normal : is_normal_form es itself ≡ true
    itself_normal =
        let xs = seen rule.facts (variables_of rule) in
        let Irreducible : Terms Variable → Type 0 = λ ts. irreducible_all es ts ≡ true in
        all_pass (irreducible_all es) (args_of itself.facts)
        (of_arguments Irreducible itself.facts
        (args_at (renumbered xs) Plain Irreducible
        (λ ts p. irreducible_all_plain (λ x. record { sort = x.sort; number = place xs x }) ts p) rule.facts plain))

    one_result : results es rule ≡ itself ∷ []
    one_result =
        ap (flat_map (λ (r : Facts Variable × Chosen). form_by (variables_of rule) r.0 (mgu r.1.pairs))) (narrow_facts_plain rule.facts (begin rule) plain)
        ∙ ap₂ (λ f kept. numbered f kept ∷ []) (facts_itself rule.facts) (valued_var_all (variables_of rule))

    one_form : forms es rule ≡ itself ∷ []
    one_form =
        ap (λ fs. without_repeats alike_form (filter (is_normal_form es) fs)) one_result
        ∙ ap (λ c. without_repeats alike_form (cond c (itself ∷ []) [])) itself_normal

pub plain_law : PlainRulesStay
plain_law = record { each = λ es good rule plain. one_form es good rule plain }
