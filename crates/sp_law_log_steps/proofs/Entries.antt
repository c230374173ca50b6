-- The values that are found for an entry of a log make an instance of its rule with the entry's premises, whose normal form is the entry's facts.
use Rattle.std.proofs.Common.{◌≡◌, ℕ, List, [], map, unwrap_or, refl, sym, ap, ◌∙◌, subst}
use Rattle.sp_spec.specs.Lists.{Member}
use Rattle.sp_spec.proofs.Lists.{every_member}
use Rattle.sp_spec.specs.Term.{Variable, Ground, Grounds, Values, valued_all}
use Rattle.sp_spec.specs.Signature.{Equation, HasSort, IsValuation}
use Rattle.sp_spec.specs.Rule.{Facts, Rule, fact_at, facts_at, IsNormalFormOf, Gives, OfArguments}
use Rattle.sp_spec.specs.Theory.{Theory, signature_of}
use Rattle.sp_spec.specs.Execution.{use_rule, IsInstance}
use Rattle.sp_spec.specs.Log.{IsRuleInstance}
use Rattle.sp_law_equal.specs.Normal.{normal_all, normal_facts}
use Rattle.sp_law_equal.specs.Pointwise.{AreSameFacts}
use Rattle.sp_law_equal.specs.Right.{AreTermsOver}
use Rattle.sp_law_equal.specs.RightTheory.{HasPlainPremises, TakesFreshNames}
use Rattle.sp_law_equal.proofs.Forms.{normals}
use Rattle.sp_law_equal.proofs.Facts.{facts_normal_form_only, same_facts_normal, facts_value}
use Rattle.sp_law_equal.proofs.PlainFacts.{plain_facts}
use Rattle.sp_spec_forms.specs.Forms.{rule_variables, RuleForms, forms_of, forms}
use Rattle.sp_law_forms.proofs.Completeness.{complete_law}
use Rattle.sp_law_forms.proofs.Soundness.{sound_law}
use Rattle.sp_law_log_steps.specs.Found.{matched_instance, bound_or_any, given_to, given_of, given_by}
use Rattle.sp_law_log_steps.specs.Executable.{IsExecutable}
use Rattle.sp_law_log_steps.proofs.Fitting.{instance_fits}
use Rattle.sp_law_log_steps.proofs.Matched.{instance_args}
use Rattle.sp_law_log_steps.proofs.Given.{own_agree, own_valuation, normal_valuation, given_gives, First, first_there, form_gives}
use Rattle.sp_law_log_steps.proofs.Instances.{instance_same, normal_facts_again, instance_over}
use Rattle.sp_law_log_steps.proofs.Premises.{AreOfFresh, of_fresh}

module _ (theory : Theory) (good : IsExecutable theory) where
  abbrev es : List Equation
  es = (signature_of theory).equations

  abbrev pub ruled : List RuleForms
  ruled = map (forms_of es) theory.rules

  -- The first form that matches these facts gives values by name, with which the rule has an instance.
  pub record Found (r : List ℕ) (facts : Facts ⊥) : Type 0 where
    pub rule : Rule
    pub member : Member rule theory.rules
    pub first : First es (forms_of es rule) (forms es rule) facts
    pub given : unwrap_or (given_by es ruled r facts) [] ≡ given_of es (forms_of es rule) first.form first.bindings
    pub values : Values
    pub valuation : IsValuation (signature_of theory) values
    pub actual : Facts ⊥
    pub is_instance : IsInstance theory (use_rule r (unwrap_or (given_by es ruled r facts) [])) values actual
    pub premises : actual.premises ≡ facts.premises
    pub normal : normal_facts es actual ≡ facts
    pub fresh : AreOfFresh facts.premises

  module _ (rule : Rule) (member : Member rule theory.rules) (v : Values) (valuation : IsValuation (signature_of theory) v) (facts : Facts ⊥)
      (normal : IsNormalFormOf es (facts_at v rule.facts) facts) where
    abbrev rule_over : OfArguments (AreTermsOver (signature_of theory).symbols) rule.facts
    rule_over = every_member (λ (q : Rule). OfArguments (AreTermsOver (signature_of theory).symbols) q.facts) theory.rules rule member good.instances.over.each

    -- some form matches, and one is the first
    first : First es (forms_of es rule) (forms es rule) facts
    first =
        let c = complete_law.each (signature_of theory) rule good.instances.forms rule_over v valuation in
        let form = c.0 in
        let w = c.1 in
        let same : facts ≡ facts_at w form.facts =
        facts_normal_form_only es good.instances.forms.normal_forms (facts_at v rule.facts) facts normal
        ∙ sym (facts_normal_form_only es good.instances.forms.normal_forms (facts_at v rule.facts) (facts_at w form.facts) c.4) in
        let fit = instance_fits w (λ x. (c.3.0 x).0) form.facts in
        first_there es (forms_of es rule) facts (forms es rule) form fit.bindings c.2 (ap (matched_instance form.facts) same ∙ fit.is)

    abbrev w : Values
    w = bound_or_any first.bindings

    over_signature : IsValuation (signature_of theory) w
    over_signature =
        own_valuation (signature_of theory) first.form.facts facts first.bindings first.matched
        (instance_over es good.instances.forms.normal_forms (signature_of theory).symbols good.instances.forms.keeps v (λ x. (valuation x).1) rule.facts facts rule_over normal)

    -- the rule's variables have the values of the form's kept terms
    record Sound : Type 0 where
      u : Values
      proper : IsValuation (signature_of theory) u
      kept : valued_all u (rule_variables 0 rule.variables) ≡ valued_all w first.form.kept
      same : AreSameFacts es (facts_at u rule.facts) facts

    sound : Sound
    sound =
        let s = sound_law.over (signature_of theory) rule good.instances.forms.over rule_over first.form first.member w over_signature in
        record {
          u = s.0;
          proper = s.1;
          kept = s.2;
          same = instance_same es v s.0 w rule.facts first.form.facts facts normal s.3 (instance_args w first.form.facts facts first.bindings first.matched (own_agree first.bindings));
        }

    abbrev values : Values
    values = normals es sound.u

    facts_again : normal_facts es facts ≡ facts
    facts_again =
        let is = facts_normal_form_only es good.instances.forms.normal_forms (facts_at v rule.facts) facts normal in
        subst (λ (f : Facts ⊥). normal_facts es f ≡ f) (sym is) (normal_facts_again es good.instances.forms.normal_forms (facts_at v rule.facts))

    same_normal : normal_facts es (facts_at sound.u rule.facts) ≡ facts
    same_normal = same_facts_normal es good.instances.forms.normal_forms (facts_at sound.u rule.facts) facts sound.same ∙ facts_again

    instance_normal : normal_facts es (facts_at values rule.facts) ≡ facts
    instance_normal = sym (facts_value es good.instances.forms.normal_forms sound.u rule.facts) ∙ same_normal

    same_premises : map (fact_at values) rule.facts.premises ≡ facts.premises
    same_premises =
        let plain = every_member (HasPlainPremises es) theory.rules rule member good.instances.premises in
        sym (plain_facts es good.instances.forms.normal_forms sound.u rule.facts.premises plain) ∙ ap (λ (f : Facts ⊥). f.premises) same_normal

    abbrev given : List (List ℕ × Ground)
    given = given_of es (forms_of es rule) first.form first.bindings

    gives : Gives 0 rule.variables given values
    gives =
        subst (λ (ts : Grounds). Gives 0 rule.variables (given_to rule.variables (normal_all es ts)) values) sound.kept
        (given_gives es sound.u 0 rule.variables)

    values_are : unwrap_or (given_by es ruled rule.name facts) [] ≡ given
    values_are = ap (λ o. unwrap_or o []) (form_gives es theory.rules rule facts good.distinct member first)

    respects : (x : Variable) → HasSort x.sort (values x)
    respects x = (normal_valuation (signature_of theory) good.instances.forms.keeps sound.u sound.proper x).0

    rule_found : Found rule.name facts
    rule_found = record {
      rule = rule;
      member = member;
      first = first;
      given = values_are;
      values = values;
      valuation = normal_valuation (signature_of theory) good.instances.forms.keeps sound.u sound.proper;
      actual = facts_at values rule.facts;
      is_instance = (rule, member, refl, subst (λ (g : List (List ℕ × Ground)). Gives 0 rule.variables g values) (sym values_are) gives, refl);
      premises = same_premises;
      normal = instance_normal;
      fresh =
          subst AreOfFresh same_premises
          (of_fresh values respects rule.facts.premises (every_member TakesFreshNames theory.rules rule member good.fresh));
    }

  pub found : (r : List ℕ) (facts : Facts ⊥) → IsRuleInstance theory r facts → Found r facts
  found r facts (rule, member, named, v, valuation, normal) =
      subst (λ (n : List ℕ). Found n facts) named (rule_found rule member v valuation facts normal)
