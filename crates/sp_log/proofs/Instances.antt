-- The tests of an entry tell whether it is an instance of a rule in normal form: by completeness and soundness of the rule's forms.
use Rattle.std.proofs.Common.{◌≡◌, ⊎_elim, ℕ, Bool, true, false, cond, ◌&&◌, List, [], ◌∷◌, map, Option, Some, None, unwrap_or, inl, inr, refl, sym, ap, ◌∙◌, subst}
use Rattle.sp_law_run.proofs.Instances.{any_is_value}
use Rattle.std.specs.Bool.{Decides}
use Rattle.std.specs.List.{list_any}
use Rattle.std.specs.Str.{bytes_eq}
use Rattle.std.proofs.lemmas.Bool.{and_parts, and_from, or_cases, or_left, or_right}
use Rattle.std.proofs.lemmas.Slice.Eq.{bytes_eq-Decides}
use Rattle.sp_spec.specs.Lists.{Member}
use Rattle.sp_spec.proofs.Lists.{every_member}
use Rattle.sp_spec.specs.Term.{Variable, Ground, Values}
use Rattle.sp_spec.specs.Same.{same_variable}
use Rattle.sp_spec.specs.Signature.{Signature, IsValue, IsValuation}
use Rattle.sp_spec.specs.Rule.{Fact, Action, Facts, Rule, fact_at, action_at, facts_at, IsNormalFormOf, OfArguments}
use Rattle.sp_spec.specs.Theory.{Theory, signature_of}
use Rattle.sp_spec.specs.Log.{IsRuleInstance}
use Rattle.sp_law_equal.specs.Right.{AreTermsOver}
use Rattle.sp_law_equal.specs.RightTheory.{HasNormalInstances}
use Rattle.sp_spec_forms.specs.Numbering.{Form}
use Rattle.sp_spec_forms.specs.Forms.{forms, forms_of}
use Rattle.sp_law_forms.specs.Laws.{IsRuleOver}
use Rattle.sp_law_equal.specs.Matching.{Bound, lookup, any_of, value_in, has_sort}
use Rattle.sp_law_equal.specs.Normal.{normal_facts}
use Rattle.sp_spec.proofs.Same.{same_variable_decides}
use Rattle.sp_law_equal.proofs.Tests.{has_sort_decides}
use Rattle.sp_law_equal.proofs.Facts.{facts_normal_form, same_facts_normal, one_normal_form}
use Rattle.sp_law_forms.proofs.Completeness.{complete_law}
use Rattle.sp_law_forms.proofs.Soundness.{sound_law}
use Rattle.sp_law_run.specs.Given.{AgreeWith}
use Rattle.sp_law_run.specs.Taken.{same_choice}
use Rattle.sp_law_log_steps.specs.Found.{matched_instance}
use Rattle.sp_law_log_steps.proofs.Fitting.{instance_fits}
use Rattle.sp_norm.specs.Over.{over}
use Rattle.sp_norm.proofs.Symbols.{over_decides}
use Rattle.sp_log.specs.Checking.{are_in_normal_form, is_value, are_values, give_values, alike_facts, alike_actions, are_alike, is_instance, is_instance_of_any}
use Rattle.sp_log.proofs.Giving.{found_gives}
use Rattle.sp_log.proofs.Normal.{normal_form_tells, normal_form_passes}

-- ---- the values that are found

module _ (signature : Signature) where
  value_tells : (b : Bound) → is_value signature b ≡ true → IsValue signature b.0.sort b.1
  value_tells b e =
      let both = and_parts (has_sort b.0.sort b.1) (over signature.symbols b.1) e in
      ((has_sort_decides b.0.sort b.1).0 both.0, (over_decides signature.symbols b.1).0 both.1)

  value_from : (b : Bound) → IsValue signature b.0.sort b.1 → is_value signature b ≡ true
  value_from b h = and_from _ _ ((has_sort_decides b.0.sort b.1).1 h.0) ((over_decides signature.symbols b.1).1 h.1)

  found_is_value : (bs : List Bound) → are_values signature bs ≡ true → (x : Variable) (t : Ground) → lookup bs x ≡ Some t → IsValue signature x.sort t
  found_is_value [] e x t l = absurd cc
  found_is_value (b ∷ bs) e x t l =
      by_test (same_variable b.0 x) refl l (found_is_value bs (and_parts (is_value signature b) (are_values signature bs) e).1 x t)
    where
      by_test : (c : Bool) → same_variable b.0 x ≡ c → cond c (Some b.1) (lookup bs x) ≡ Some t → (lookup bs x ≡ Some t → IsValue signature x.sort t)
          → IsValue signature x.sort t
      by_test true s k next =
          let both = and_parts (is_value signature b) (are_values signature bs) e in
          let same : b.1 ≡ t = cc in
          subst (λ (y : Variable). IsValue signature y.sort t) ((same_variable_decides b.0 x).0 s)
          (subst (λ (u : Ground). IsValue signature b.0.sort u) same (value_tells b both.0))
      by_test false s k next = next k

  values_are : (bs : List Bound) → are_values signature bs ≡ true → IsValuation signature (value_in bs)
  values_are bs e x = by_value (lookup bs x) refl
    where
      by_value : (o : Option Ground) → lookup bs x ≡ o → IsValue signature x.sort (unwrap_or o (any_of x.sort))
      by_value None k = any_is_value signature x.sort
      by_value (Some t) k = found_is_value bs e x t k

  values_from : (w : Values) → IsValuation signature w → (bs : List Bound) → AgreeWith w bs → are_values signature bs ≡ true
  values_from w h [] a = refl
  values_from w h (b ∷ bs) a =
      and_from _ _ (value_from b (subst (λ (t : Ground). IsValue signature b.0.sort t) a.0 (h b.0))) (values_from w h bs a.1)

-- ---- the names of facts and actions

same_choice_itself : (b : Bool) → same_choice b b ≡ true
same_choice_itself true = refl
same_choice_itself false = refl

facts_alike : (v : Values) (fs : List (Fact Variable)) → alike_facts fs (map (fact_at v) fs) ≡ true
facts_alike v [] = refl
facts_alike v (f ∷ fs) = and_from _ _ (and_from _ _ ((bytes_eq-Decides f.symbol f.symbol).1 refl) (same_choice_itself f.persistent)) (facts_alike v fs)

actions_alike : (v : Values) (xs : List (Action Variable)) → alike_actions xs (map (action_at v) xs) ≡ true
actions_alike v [] = refl
actions_alike v (a ∷ xs) = and_from _ _ ((bytes_eq-Decides a.symbol a.symbol).1 refl) (actions_alike v xs)

instance_alike : (v : Values) (p : Facts Variable) → are_alike p (facts_at v p) ≡ true
instance_alike v p = and_from _ _ (facts_alike v p.premises) (and_from _ _ (actions_alike v p.actions) (facts_alike v p.conclusions))

-- ---- instances of forms

-- values over the signature make the form these facts
abbrev IsInstanceOf : Signature → Facts ⊥ → Form → Type 0
IsInstanceOf signature facts form = (w : Values) × IsValuation signature w × (facts_at w form.facts ≡ facts)

module _ (signature : Signature) (facts : Facts ⊥) where
  abbrev test : Form → Bool
  test form = is_instance signature form facts

  instance_tells : (form : Form) → test form ≡ true → IsInstanceOf signature facts form
  instance_tells form e =
      let both = and_parts (are_alike form.facts facts) (give_values signature (matched_instance form.facts facts)) e in
      by_found both.0 (matched_instance form.facts facts) refl both.1
    where
      by_found : are_alike form.facts facts ≡ true → (o : Option (List Bound)) → matched_instance form.facts facts ≡ o → give_values signature o ≡ true
          → IsInstanceOf signature facts form
      by_found alike None k s = absurd cc
      by_found alike (Some bs) k s = (
        value_in bs,
        values_are signature bs s,
        found_gives form.facts facts alike bs k (value_in bs) (λ x t l. ap (λ o. unwrap_or o (any_of x.sort)) l),
      )

  instance_from : (form : Form) → IsInstanceOf signature facts form → test form ≡ true
  instance_from form h =
      let w : Values = h.0 in
      let fit = instance_fits w (λ x. (h.1 x).0) form.facts in
      let found : matched_instance form.facts facts ≡ Some fit.bindings = ap (matched_instance form.facts) (sym h.2) ∙ fit.is in
      and_from _ _ (subst (λ (f : Facts ⊥). are_alike form.facts f ≡ true) h.2 (instance_alike w form.facts))
      (ap (give_values signature) found ∙ values_from signature w h.1 fit.bindings fit.agree)

  abbrev IsInstanceOfOne : List Form → Type 0
  IsInstanceOfOne forms = (form : Form) × Member form forms × IsInstanceOf signature facts form

  one_tells : (forms : List Form) → list_any test forms ≡ true → IsInstanceOfOne forms
  one_tells [] e = absurd cc
  one_tells (form ∷ forms) e =
      ⊎_elim (λ h. (form, inl refl, instance_tells form h)) (λ h. let k = one_tells forms h in (k.0, inr k.1, k.2))
      (or_cases (test form) (list_any test forms) e)

  one_from : (forms : List Form) → IsInstanceOfOne forms → list_any test forms ≡ true
  one_from [] h = absurd h.1
  one_from (form ∷ forms) h =
      ⊎_elim
      (λ same. or_left (test form) (list_any test forms) (instance_from form (subst (λ (g : Form). IsInstanceOf signature facts g) (sym same) h.2)))
      (λ m. or_right (test form) (list_any test forms) (one_from forms (h.0, m, h.2)))
      h.1

-- an instance of a form of a rule of the name
abbrev IsInstanceOfAny : Signature → List Rule → List ℕ → Facts ⊥ → Type 0
IsInstanceOfAny signature rules r facts =
    (rule : Rule) × Member rule rules × (rule.name ≡ r) × IsInstanceOfOne signature facts (forms signature.equations rule)

module _ (signature : Signature) (r : List ℕ) (facts : Facts ⊥) where
  abbrev rule_passes : Rule → Bool
  rule_passes rule = bytes_eq rule.name r && list_any (test signature facts) (forms signature.equations rule)

  abbrev any_passes : List Rule → Bool
  any_passes rules = is_instance_of_any signature (map (forms_of signature.equations) rules) r facts

  any_tells : (rules : List Rule) → any_passes rules ≡ true → IsInstanceOfAny signature rules r facts
  any_tells [] e = absurd cc
  any_tells (rule ∷ rules) e =
      ⊎_elim
      (λ h.
      let both = and_parts (bytes_eq rule.name r) (list_any (test signature facts) (forms signature.equations rule)) h in
      (rule, inl refl, (bytes_eq-Decides rule.name r).0 both.0, one_tells signature facts (forms signature.equations rule) both.1))
      (λ h. let k = any_tells rules h in (k.0, inr k.1, k.2, k.3))
      (or_cases (rule_passes rule) (any_passes rules) e)

  any_from : (rules : List Rule) → IsInstanceOfAny signature rules r facts → any_passes rules ≡ true
  any_from [] h = absurd h.1
  any_from (rule ∷ rules) h =
      ⊎_elim
      (λ same.
      or_left (rule_passes rule) (any_passes rules)
      (and_from _ _ ((bytes_eq-Decides rule.name r).1 (ap (λ (q : Rule). q.name) same ∙ h.2))
      (one_from signature facts (forms signature.equations rule)
      (subst (λ (q : Rule). IsInstanceOfOne signature facts (forms signature.equations q)) (sym same) h.3))))
      (λ m. or_right (rule_passes rule) (any_passes rules) (any_from rules (h.0, m, h.2, h.3)))
      h.1

-- ---- instances of rules

module _ (theory : Theory) (good : HasNormalInstances theory) (r : List ℕ) (facts : Facts ⊥) where
  abbrev signature : Signature
  signature = signature_of theory

  rule_over : (rule : Rule) → Member rule theory.rules → IsRuleOver signature rule
  rule_over rule m = every_member (λ (q : Rule). OfArguments (AreTermsOver signature.symbols) q.facts) theory.rules rule m good.over.each

  -- facts in normal form that are an instance of a form are the normal form of the rule's instance at the values that the form keeps
  instance_of_rule : normal_facts signature.equations facts ≡ facts → IsInstanceOfAny signature theory.rules r facts → IsRuleInstance theory r facts
  instance_of_rule normal h =
      let form : Form = h.3.0 in
      let w : Values = h.3.2.0 in
      let s = sound_law.over signature h.0 good.forms.over (rule_over h.0 h.1) form h.3.1 w h.3.2.1 in
      let same : normal_facts signature.equations (facts_at s.0 h.0.facts) ≡ facts =
      same_facts_normal signature.equations good.forms.normal_forms (facts_at s.0 h.0.facts) (facts_at w form.facts) s.3
      ∙ ap (normal_facts signature.equations) h.3.2.2 ∙ normal in (
        h.0,
        h.1,
        h.2,
        s.0,
        s.1,
        subst (λ (f : Facts ⊥). IsNormalFormOf signature.equations (facts_at s.0 h.0.facts) f) same
            (facts_normal_form signature.equations good.forms.normal_forms (facts_at s.0 h.0.facts)),
      )

  instance_of_form : IsRuleInstance theory r facts → IsInstanceOfAny signature theory.rules r facts
  instance_of_form h =
      let c = complete_law.each signature h.0 good.forms (rule_over h.0 h.1) h.3 h.4 in (
        h.0,
        h.1,
        h.2,
        (
          c.0,
          c.2,
          (c.1, c.3.0, one_normal_form signature.equations good.forms.normal_forms (facts_at h.3 h.0.facts) (facts_at c.1 c.0.facts) facts c.4 h.5),
        ),
      )

  pub step_decides : Decides (are_in_normal_form signature.equations facts && any_passes signature r facts theory.rules) (IsRuleInstance theory r facts)
  step_decides = (
    λ e.
        let both = and_parts (are_in_normal_form signature.equations facts) (any_passes signature r facts theory.rules) e in
        instance_of_rule (normal_form_tells signature.equations facts both.0) (any_tells signature r facts theory.rules both.1),
    λ h.
        and_from _ _ (normal_form_passes signature.equations (facts_at h.3 h.0.facts) facts h.5)
        (any_from signature r facts theory.rules (instance_of_form h)),
  )
