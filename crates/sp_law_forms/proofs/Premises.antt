-- Where the premises of a form are normal they are the rule's premises at normal values.
use Rattle.std.proofs.Common.{◌≡◌, ℕ, suc, List, [], ◌∷◌, map, refl, sym, ap, ◌∙◌}
use Rattle.sp_spec.specs.Lists.{Member, Every}
use Rattle.sp_spec.specs.Term.{Variable, more, Values, valued_all}
use Rattle.sp_spec.specs.Signature.{Equation, RespectsSorts}
use Rattle.sp_spec.specs.Equal.{Equal, AreNormal}
use Rattle.sp_spec.specs.Rule.{Fact, Declared, Rule, fact_at, action_at, facts_at, SameFact, SameAction}
use Rattle.sp_spec.proofs.Lists.{every_map}
use Rattle.sp_law_equal.specs.Destructors.{ArePlain}
use Rattle.sp_law_equal.specs.NormalForms.{HaveNormalForms}
use Rattle.sp_law_equal.specs.Normal.{normal, normal_all}
use Rattle.sp_law_equal.specs.Pointwise.{EachWith, AreSameFacts}
use Rattle.sp_law_equal.proofs.Chains.{equal_sym, equal_all_valued, same_fact_trans, same_action_trans}
use Rattle.sp_law_equal.proofs.Forms.{normals, normals_respect, to_normal}
use Rattle.sp_spec_forms.specs.Numbering.{Form}
use Rattle.sp_spec_forms.specs.Forms.{rule_variables, forms}
use Rattle.sp_law_forms.specs.Laws.{FormsKeepPremises}
use Rattle.sp_law_forms.proofs.Plain.{premises_kept}
use Rattle.sp_law_forms.proofs.Soundness.{sound_law}

-- the rule's variables have the normal forms of their values
variables_normal : (es : List Equation) (v : Values) (k : ℕ) (xs : List Declared)
    → valued_all (normals es v) (rule_variables k xs) ≡ normal_all es (valued_all v (rule_variables k xs))
variables_normal es v k [] = refl
variables_normal es v k (x ∷ xs) = ap (more (normal es (v (record { sort = x.sort; number = k })))) (variables_normal es v (suc k) xs)

-- one row is the same as a second, and this as a third
from_mapped : {A B : Type 0} (R : B → B → Type 0) → ((x y z : B) → R x y → R y z → R x z) → (f g : A → B) → ((x : A) → R (f x) (g x))
    → (xs : List A) (ys : List B) → EachWith R (map g xs) ys → EachWith R (map f xs) ys
from_mapped R trans f g h [] ys e = e
from_mapped R trans f g h (x ∷ xs) [] e = absurd e
from_mapped R trans f g h (x ∷ xs) (y ∷ ys) e = (trans (f x) (g x) y (h x) e.0, from_mapped R trans f g h xs ys e.1)

module _ (es : List Equation) (good : HaveNormalForms es) (rule : Rule) (plain : Every (λ (f : Fact Variable). ArePlain es f.args) rule.facts.premises)
    (form : Form) (m : Member form (forms es rule)) (w : Values) (sorts : RespectsSorts w)
    (normal_premises : Every (λ (f : Fact Variable). AreNormal es (valued_all w f.args)) form.facts.premises)
    (v : Values) (v_sorts : RespectsSorts v) (same : AreSameFacts es (facts_at v rule.facts) (facts_at w form.facts)) where
  abbrev u : Values
  u = normals es v

  closer : (x : Variable) → Equal es (u x) (v x)
  closer x = equal_sym es (v x) (u x) (to_normal es (v x))

  premises_same : map (fact_at u) rule.facts.premises ≡ map (fact_at w) form.facts.premises
  premises_same =
      sym
      (premises_kept es good rule.facts.premises (map (fact_at w) form.facts.premises) v plain same.premises
      (every_map (λ (f : Fact Variable). AreNormal es (valued_all w f.args)) (λ (g : Fact ⊥). AreNormal es g.args) (fact_at w) (λ f h. h) form.facts.premises normal_premises))

  facts_same : AreSameFacts es (facts_at u rule.facts) (facts_at w form.facts)
  facts_same = record {
    premises =
        from_mapped (SameFact es) (same_fact_trans es) (fact_at u) (fact_at v) (λ f. (refl, refl, equal_all_valued es u v closer f.args))
        rule.facts.premises (map (fact_at w) form.facts.premises) same.premises;
    actions =
        from_mapped (SameAction es) (same_action_trans es) (action_at u) (action_at v) (λ a. (refl, equal_all_valued es u v closer a.args))
        rule.facts.actions (map (action_at w) form.facts.actions) same.actions;
    conclusions =
        from_mapped (SameFact es) (same_fact_trans es) (fact_at u) (fact_at v) (λ f. (refl, refl, equal_all_valued es u v closer f.args))
        rule.facts.conclusions (map (fact_at w) form.facts.conclusions) same.conclusions;
  }

pub premises_law : FormsKeepPremises
premises_law = record {
  each = λ es good rule plain form m w sorts normal_premises.
      let k = sound_law.each es rule form m w sorts in (
        normals es k.0,
        normals_respect es k.0 k.1,
        λ x. good.is_normal (k.0 x),
        variables_normal es k.0 0 rule.variables ∙ ap (normal_all es) k.2,
        premises_same es good rule plain form m w sorts normal_premises k.0 k.1 k.3,
        facts_same es good rule plain form m w sorts normal_premises k.0 k.1 k.3,
      );
}
