-- The facts of a log's steps are over the signature, and in normal form; so is all that is learnt from them.
use Rattle.std.proofs.Common.{ℕ, false, List, [], ◌∷◌, map, sym, subst}
use Rattle.sp_spec.specs.Lists.{Every}
use Rattle.sp_spec.specs.Term.{Variable, Terms, Grounds, Values, valued_all}
use Rattle.sp_spec.specs.Signature.{Equation, IsOver, AreOver}
use Rattle.sp_spec.specs.Equal.{IsNormal, AreNormal, AreNormalFormsOf}
use Rattle.sp_spec.specs.Rule.{Fact, Action, Facts, Rule, OfArguments, fact_at, action_at, AreNormalFacts, AreNormalActions}
use Rattle.sp_spec.specs.Theory.{Theory, signature_of}
use Rattle.sp_spec.specs.Log.{IsRuleInstance}
use Rattle.sp_spec.proofs.Lists.{every_all, every_member}
use Rattle.sp_law_equal.specs.Right.{AreTermsOver}
use Rattle.sp_law_equal.specs.RightTheory.{HasNormalInstances}
use Rattle.sp_law_equal.proofs.Over.{normal_all_over}
use Rattle.sp_law_equal.proofs.Values.{normal_forms_same}
use Rattle.sp_law_run.proofs.Over.{valued_all_over}
use Rattle.sp_law_log.proofs.Lasting.{Lasts}

-- It holds of the arguments of facts and actions, if it holds of the normal forms of those that they are the normal forms of.
module _ (es : List Equation) (Ps : Terms Variable → Type 0) (Qs : Grounds → Type 0) (v : Values)
    (gives : (ts : Terms Variable) (us : Grounds) → Ps ts → AreNormalFormsOf es (valued_all v ts) us → Qs us) where
  each_fact : (fs : List (Fact Variable)) (gs : List (Fact ⊥)) → AreNormalFacts es (map (fact_at v) fs) gs → Every (λ (f : Fact Variable). Ps f.args) fs → Every (λ (g : Fact ⊥). Qs g.args) gs
  each_fact [] [] n h = tt
  each_fact [] (g ∷ gs) n h = absurd n
  each_fact (f ∷ fs) [] n h = absurd n
  each_fact (f ∷ fs) (g ∷ gs) n h = (gives f.args g.args h.0 n.2, each_fact fs gs n.3 h.1)

  each_action : (as' : List (Action Variable)) (bs : List (Action ⊥)) → AreNormalActions es (map (action_at v) as') bs → Every (λ (a : Action Variable). Ps a.args) as' → Every (λ (b : Action ⊥). Qs b.args) bs
  each_action [] [] n h = tt
  each_action [] (b ∷ bs) n h = absurd n
  each_action (a ∷ as') [] n h = absurd n
  each_action (a ∷ as') (b ∷ bs) n h = (gives a.args b.args h.0 n.1, each_action as' bs n.2 h.1)

module _ (theory : Theory) where
  -- of all facts of a step
  step_facts : (Ps : Terms Variable → Type 0) (Qs : Grounds → Type 0) (r : List ℕ) (facts : Facts ⊥) → (is : IsRuleInstance theory r facts)
      → ((ts : Terms Variable) (us : Grounds) → Ps ts → AreNormalFormsOf (signature_of theory).equations (valued_all is.3 ts) us → Qs us)
      → OfArguments Ps is.0.facts → OfArguments Qs facts
  step_facts Ps Qs r facts is gives h =
      let es = (signature_of theory).equations in
      let own = is.0.facts in
      record {
        premises = each_fact es Ps Qs is.3 gives own.premises facts.premises is.5.premises h.premises;
        actions = each_action es Ps Qs is.3 gives own.actions facts.actions is.5.actions h.actions;
        conclusions = each_fact es Ps Qs is.3 gives own.conclusions facts.conclusions is.5.conclusions h.conclusions;
      }

  module _ (good : HasNormalInstances theory) where
    facts_over : (r : List ℕ) (facts : Facts ⊥) → IsRuleInstance theory r facts → OfArguments (AreOver (signature_of theory).symbols) facts
    facts_over r facts is =
        let symbols = (signature_of theory).symbols in
        let es = (signature_of theory).equations in
        step_facts (AreTermsOver symbols) (AreOver symbols) r facts is
        (λ ts us h n.
        subst (AreOver symbols) (sym (normal_forms_same es good.forms.normal_forms (valued_all is.3 ts) us n))
        (normal_all_over symbols es good.forms.keeps (valued_all is.3 ts) (valued_all_over symbols is.3 (λ x. (is.4 x).1) ts h)))
        (every_member (λ (rule : Rule). OfArguments (AreTermsOver symbols) rule.facts) theory.rules is.0 is.1 good.over.each)

    pub over_lasts : Lasts theory (IsOver (signature_of theory).symbols) (AreOver (signature_of theory).symbols)
    over_lasts = record {
      facts = facts_over;
      constants = λ c. tt;
      names = λ n. tt;
      applied = λ f ts public normal each. ((false, public), each);
      under = λ f ts h. h.1;
      first = λ t ts h. h.0;
      rest = λ t ts h. h.1;
      nothing = tt;
      together = λ t ts h k. (h, k);
    }

  abbrev AnyTerms : Terms Variable → Type 0
  AnyTerms ts = Unit {0}

  facts_normal : (r : List ℕ) (facts : Facts ⊥) → IsRuleInstance theory r facts → OfArguments (AreNormal (signature_of theory).equations) facts
  facts_normal r facts is =
      let own = is.0.facts in
      step_facts AnyTerms (AreNormal (signature_of theory).equations) r facts is (λ ts us h n. n.1)
      (record {
        premises = every_all (λ (f : Fact Variable). AnyTerms f.args) (λ f. tt) own.premises;
        actions = every_all (λ (a : Action Variable). AnyTerms a.args) (λ a. tt) own.actions;
        conclusions = every_all (λ (f : Fact Variable). AnyTerms f.args) (λ f. tt) own.conclusions;
      })

  pub normal_lasts : Lasts theory (IsNormal (signature_of theory).equations) (AreNormal (signature_of theory).equations)
  normal_lasts = record {
    facts = facts_normal;
    constants = λ c. tt;
    names = λ n. tt;
    applied = λ f ts public normal each. normal;
    under = λ f ts h. h.0;
    first = λ t ts h. h.0;
    rest = λ t ts h. h.1;
    nothing = tt;
    together = λ t ts h k. (h, k);
  }
