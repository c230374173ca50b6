-- The facts of an entry, the normal form of an instance of its rule: some form of the rule matches them, and the values that it gives make an instance with
-- the same premises, whose normal form they are.
use Rattle.std.proofs.Common.{◌≡◌, List, [], ◌∷◌, map, refl, sym, ap, ap₂, ◌∙◌, subst}
use Rattle.sp_spec.specs.Lists.{Every}
use Rattle.sp_spec.specs.Term.{Variable, Values, valued_all}
use Rattle.sp_spec.specs.Signature.{Symbol, Equation, IsOver, AreOver}
use Rattle.sp_spec.specs.Equal.{EqualAll}
use Rattle.sp_spec.specs.Rule.{Fact, Action, Facts, fact_at, action_at, facts_at, SameFact, SameAction, AreNormalFacts, AreNormalActions, IsNormalFormOf, OfArguments}
use Rattle.sp_law_equal.specs.NormalForms.{HaveNormalForms, KeepSymbols}
use Rattle.sp_law_equal.specs.Normal.{normal_fact, normal_action, normal_facts}
use Rattle.sp_law_equal.specs.Pointwise.{EachWith, AreSameFacts}
use Rattle.sp_law_equal.specs.Right.{AreTermsOver}
use Rattle.sp_law_equal.proofs.Values.{normal_all_again, normal_forms_same}
use Rattle.sp_law_equal.proofs.Over.{normal_all_over}
use Rattle.sp_law_run.proofs.Over.{valued_all_over}
use Rattle.sp_spec.proofs.Facts.{made_fact, made_action, made_facts}
use Rattle.sp_law_log_steps.proofs.Matched.{HasArgs, HasActionArgs, MakesArgs}

-- ---- facts with the names of a rule's

module _ (es : List Equation) (v u w : Values) where
  facts_same : (rs ps : List (Fact Variable)) (gs : List (Fact ⊥)) → AreNormalFacts es (map (fact_at v) rs) gs
      → EachWith (SameFact es) (map (fact_at u) rs) (map (fact_at w) ps) → EachWith (HasArgs w) ps gs → EachWith (SameFact es) (map (fact_at u) rs) gs
  facts_same [] [] [] n s a = tt
  facts_same [] [] (g ∷ gs) n s a = absurd a
  facts_same [] (p ∷ ps) gs n s a = absurd s
  facts_same (r ∷ rs) [] gs n s a = absurd s
  facts_same (r ∷ rs) (p ∷ ps) [] n s a = absurd a
  facts_same (r ∷ rs) (p ∷ ps) (g ∷ gs) n s a =
      ((n.0, n.1, subst (EqualAll es (valued_all u r.args)) a.0 s.0.2), facts_same rs ps gs n.3 s.1 a.1)

  actions_same : (rs ps : List (Action Variable)) (gs : List (Action ⊥)) → AreNormalActions es (map (action_at v) rs) gs
      → EachWith (SameAction es) (map (action_at u) rs) (map (action_at w) ps) → EachWith (HasActionArgs w) ps gs → EachWith (SameAction es) (map (action_at u) rs) gs
  actions_same [] [] [] n s a = tt
  actions_same [] [] (g ∷ gs) n s a = absurd a
  actions_same [] (p ∷ ps) gs n s a = absurd s
  actions_same (r ∷ rs) [] gs n s a = absurd s
  actions_same (r ∷ rs) (p ∷ ps) [] n s a = absurd a
  actions_same (r ∷ rs) (p ∷ ps) (g ∷ gs) n s a =
      ((n.0, subst (EqualAll es (valued_all u r.args)) a.0 s.0.1), actions_same rs ps gs n.2 s.1 a.1)

  -- what a form's facts are equal to is equal to the facts that the form matches, if they are named as the rule's
  pub instance_same : (r p : Facts Variable) (f : Facts ⊥) → IsNormalFormOf es (facts_at v r) f → AreSameFacts es (facts_at u r) (facts_at w p) → MakesArgs w p f
      → AreSameFacts es (facts_at u r) f
  instance_same r p f n s a = record {
    premises = facts_same r.premises p.premises f.premises n.premises s.premises a.premises;
    actions = actions_same r.actions p.actions f.actions n.actions s.actions a.actions;
    conclusions = facts_same r.conclusions p.conclusions f.conclusions n.conclusions s.conclusions a.conclusions;
  }

-- ---- normal facts

module _ (es : List Equation) (good : HaveNormalForms es) where
  facts_again : (fs : List (Fact ⊥)) → map (normal_fact es) (map (normal_fact es) fs) ≡ map (normal_fact es) fs
  facts_again [] = refl
  facts_again (f ∷ fs) = ap₂ (λ (x : Fact ⊥) (xs : List (Fact ⊥)). x ∷ xs) (ap (made_fact f.symbol f.persistent) (normal_all_again es good f.args)) (facts_again fs)

  actions_again : (xs : List (Action ⊥)) → map (normal_action es) (map (normal_action es) xs) ≡ map (normal_action es) xs
  actions_again [] = refl
  actions_again (a ∷ xs) = ap₂ (λ (x : Action ⊥) (ys : List (Action ⊥)). x ∷ ys) (ap (made_action a.symbol) (normal_all_again es good a.args)) (actions_again xs)

  pub normal_facts_again : (f : Facts ⊥) → normal_facts es (normal_facts es f) ≡ normal_facts es f
  normal_facts_again f =
      ap (λ x. made_facts x (map (normal_action es) (map (normal_action es) f.actions)) (map (normal_fact es) (map (normal_fact es) f.conclusions))) (facts_again f.premises)
      ∙ ap (λ x. made_facts (map (normal_fact es) f.premises) x (map (normal_fact es) (map (normal_fact es) f.conclusions))) (actions_again f.actions)
      ∙ ap (made_facts (map (normal_fact es) f.premises) (map (normal_action es) f.actions)) (facts_again f.conclusions)

  -- ---- the symbols of an instance's normal form

  module _ (symbols : List Symbol) (keeps : KeepSymbols symbols es) (v : Values) (over : (x : Variable) → IsOver symbols (v x)) where
    facts_over : (fs : List (Fact Variable)) (gs : List (Fact ⊥)) → Every (λ (f : Fact Variable). AreTermsOver symbols f.args) fs
        → AreNormalFacts es (map (fact_at v) fs) gs → Every (λ (g : Fact ⊥). AreOver symbols g.args) gs
    facts_over [] [] h n = tt
    facts_over [] (g ∷ gs) h n = absurd n
    facts_over (f ∷ fs) [] h n = absurd n
    facts_over (f ∷ fs) (g ∷ gs) h n =
        let ts = valued_all v f.args in (
          subst (AreOver symbols) (sym (normal_forms_same es good ts g.args n.2)) (normal_all_over symbols es keeps ts (valued_all_over symbols v over f.args h.0)),
          facts_over fs gs h.1 n.3,
        )

    actions_over : (xs : List (Action Variable)) (ys : List (Action ⊥)) → Every (λ (a : Action Variable). AreTermsOver symbols a.args) xs
        → AreNormalActions es (map (action_at v) xs) ys → Every (λ (b : Action ⊥). AreOver symbols b.args) ys
    actions_over [] [] h n = tt
    actions_over [] (y ∷ ys) h n = absurd n
    actions_over (x ∷ xs) [] h n = absurd n
    actions_over (x ∷ xs) (y ∷ ys) h n =
        let ts = valued_all v x.args in (
          subst (AreOver symbols) (sym (normal_forms_same es good ts y.args n.1)) (normal_all_over symbols es keeps ts (valued_all_over symbols v over x.args h.0)),
          actions_over xs ys h.1 n.2,
        )

    pub instance_over : (p : Facts Variable) (f : Facts ⊥) → OfArguments (AreTermsOver symbols) p → IsNormalFormOf es (facts_at v p) f → OfArguments (AreOver symbols) f
    instance_over p f h n = record {
      premises = facts_over p.premises f.premises h.premises n.premises;
      actions = actions_over p.actions f.actions h.actions n.actions;
      conclusions = facts_over p.conclusions f.conclusions h.conclusions n.conclusions;
    }
