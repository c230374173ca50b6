-- The forms are complete.
use Rattle.std.proofs.Common.{◌≡◌, inl, ◌≤◌, List, Option, Some, refl, sym, ap, ◌∙◌, subst, arith}
use Rattle.sp_spec.specs.Lists.{Member}
use Rattle.sp_spec.specs.Term.{Variable, Terms, Values, valued_all}
use Rattle.sp_spec.specs.Signature.{Equation, Signature, RespectsSorts, IsValuation}
use Rattle.sp_spec.specs.Substitution.{Binding, bound_to}
use Rattle.sp_spec.specs.Unifier.{mgu, MakesSame}
use Rattle.sp_spec.specs.Rule.{Facts, Rule, facts_at, IsNormalFormOf}
use Rattle.sp_spec.proofs.Lists.{every_both}
use Rattle.sp_law_equal.specs.NormalForms.{HasNormalForms}
use Rattle.sp_law_equal.specs.Normal.{normal, normal_facts}
use Rattle.sp_law_equal.proofs.Facts.{facts_normal_form, facts_normal_form_only, facts_value}
use Rattle.sp_law_equal.specs.Right.{AreTermsOver}
use Rattle.sp_law_equal.proofs.Forms.{normal_has_sort}
use Rattle.sp_law_unify.proofs.Unique.{unifier_law}
use Rattle.sp_spec_forms.specs.Shifted.{above_all}
use Rattle.sp_spec_forms.specs.Narrowing.{Chosen, narrow_facts}
use Rattle.sp_spec_forms.specs.Reducible.{args_of}
use Rattle.sp_spec_forms.specs.Forms.{form_by, start, results, forms}
use Rattle.sp_spec_forms.specs.Numbering.{Form, numbered, seen}
use Rattle.sp_law_forms.specs.Laws.{IsNormalValuation, FormsAreComplete, IsRuleOver}
use Rattle.sp_law_forms.proofs.Over.{all_over_at}
use Rattle.sp_law_forms.proofs.Lists.{member_flat_map}
use Rattle.sp_law_forms.proofs.Ways.{Reached}
use Rattle.sp_law_forms.proofs.Values.{valued_all_occurs}
use Rattle.sp_law_forms.proofs.Choice.{unifies, respects}
use Rattle.sp_law_forms.proofs.Narrow.{Fit, completes_facts}
use Rattle.sp_law_forms.proofs.Facts.{to_arguments, of_arguments, arguments_all, SameArgs, same_facts_at, after, facts_after}
use Rattle.sp_law_forms.proofs.Numbered.{placed, at_places_good, numbered_facts}
use Rattle.sp_law_forms.proofs.Proper.{begin, variables_of}
use Rattle.sp_law_forms.proofs.Results.{every_above, nothing_lost, normal_form_if}

module _ (signature : Signature) (rule : Rule) (good : HasNormalForms signature) (over : IsRuleOver signature rule) (v : Values)
    (normal : IsNormalValuation signature v) where
  abbrev es : List Equation
  es = signature.equations

  abbrev Complete : Type 0
  Complete =
      (f : Form) × (u : Values) × Member f (forms es rule) × IsNormalValuation signature u × IsNormalFormOf es (facts_at v rule.facts) (facts_at u f.facts)

  reached : Reached (IsNormalValuation signature) (start rule) v (narrow_facts es rule.facts (begin rule)) (begin rule) v
      (λ w g. facts_at w g ≡ normal_facts es (facts_at v rule.facts))
  reached =
      completes_facts signature good (start rule) v normal rule.facts
      (to_arguments (Fit signature good (start rule) v normal) rule.facts
      (every_both (λ ts. above_all ts ≤ start rule) (AreTermsOver signature.symbols) (Fit signature good (start rule) v normal)
      (λ ts b o. (b, all_over_at signature.symbols v (λ x. (normal.0 x).1) ts o)) (args_of rule.facts)
      (every_above (args_of rule.facts) (start rule) (omega arith)) (of_arguments (AreTermsOver signature.symbols) rule.facts over)))
      (begin rule) v
      (record { good = normal; starts = λ x lt. refl; enough = omega arith; holds = λ w a. (tt, tt) })

  -- what the result is, at all values of the new variables too
  module _ (g : Facts Variable) (s : Chosen) (among : Member {A = Facts Variable × Chosen} (g, s) (narrow_facts es rule.facts (begin rule))) (w : Values)
      (w_good : IsNormalValuation signature w) (same : MakesSame w s.pairs) (value : facts_at w g ≡ normal_facts es (facts_at v rule.facts))
      (bs : List Binding) (is : mgu s.pairs ≡ Some bs) where
    abbrev bound_facts : Facts Variable
    bound_facts = facts_at (bound_to bs) g

    abbrev kept : Terms Variable
    kept = valued_all (bound_to bs) (variables_of rule)

    abbrev form : Form
    form = numbered bound_facts kept

    abbrev values : Values
    values = placed bound_facts kept w

    sorts : RespectsSorts w
    sorts = respects signature w w_good

    fixed : facts_at w bound_facts ≡ facts_at w g
    fixed =
        let most = unifier_law.some s.pairs bs is in
        let f = most.fixes w (record { respects = sorts; makes_same = same }) in
        facts_after w (bound_to bs) g
        ∙ same_facts_at (after w (bound_to bs)) w g
        (arguments_all (SameArgs (after w (bound_to bs)) w) (λ ts. valued_all_occurs (after w (bound_to bs)) w ts (λ x o. sym (f x))) g)

    form_value : facts_at values form.facts ≡ normal_facts es (facts_at v rule.facts)
    form_value = numbered_facts bound_facts kept w ∙ fixed ∙ value

    values_good : IsNormalValuation signature values
    values_good = at_places_good signature (seen bound_facts kept) w w_good

    among_results : Member form (results es rule)
    among_results =
        member_flat_map (λ (r : Facts Variable × Chosen). form_by (variables_of rule) r.0 (mgu r.1.pairs)) (g, s) form
        (narrow_facts es rule.facts (begin rule)) among
        (subst (λ (o : Option (List Binding)). Member form (form_by (variables_of rule) g o)) (sym is) (inl refl))

    complete_by : Complete
    complete_by =
        let k = nothing_lost es rule form among_results (normal_form_if es good.normal_forms values (respects signature values values_good) form (facts_at v rule.facts) form_value) in (
          k.0,
          values,
          k.1,
          values_good,
          subst (λ (f : Facts ⊥). IsNormalFormOf es (facts_at v rule.facts) f) (sym (ap (facts_at values) k.2 ∙ form_value))
              (facts_normal_form es good.normal_forms (facts_at v rule.facts)),
        )

  complete : Complete
  complete =
      let r = reached in
      let b = r.begun in
      let h = b.holds r.values (λ x lt. refl) in
      let u = unifies r.result.1.pairs r.values (record { respects = respects signature r.values b.good; makes_same = h.0 }) in
      complete_by r.result.0 r.result.1 r.among r.values b.good h.0 h.1 u.0 u.1

-- values may be taken in normal form
module _ (signature : Signature) (good : HasNormalForms signature) (v : Values) (given : IsValuation signature v) where
  abbrev normal_values : Values
  normal_values x = normal signature.equations (v x)

  normal_values_good : IsNormalValuation signature normal_values
  normal_values_good = (
    λ x. (normal_has_sort signature.equations x.sort (v x) (given x).0, good.keeps.kept (v x) (given x).1),
    λ x. good.normal_forms.is_normal (v x),
  )

pub complete_law : FormsAreComplete
complete_law = record {
  each = λ signature rule good over v given.
      let es = signature.equations in
      let c = complete signature rule good over (normal_values signature good v given) (normal_values_good signature good v given) in
      let same =
      facts_normal_form_only es good.normal_forms (facts_at (normal_values signature good v given) rule.facts) (facts_at c.1 c.0.facts) c.4
      ∙ sym (facts_value es good.normal_forms v rule.facts) in
      (c.0, c.1, c.2, c.3, subst (λ (f : Facts ⊥). IsNormalFormOf es (facts_at v rule.facts) f) (sym same) (facts_normal_form es good.normal_forms (facts_at v rule.facts)));
}
