-- Where the equations have no names, equal terms are equal with other names, and normal terms are normal.
use Rattle.std.proofs.Common.{◌≡◌, List, [], ◌∷◌, map, refl, sym, ap, ◌∙◌}
use Rattle.sp_spec.specs.Term.{Variable, Term, var, constant, name, app, none, more, MadeOf, Ground, Grounds, Values, valued}
use Rattle.sp_spec.specs.Signature.{Equation}
use Rattle.sp_spec.specs.Equal.{Rewriting, at_root, below, RewritingIn, here, there, Equal, end, forth, back, EqualAll, MatchesNone, IsNormal, AreNormal, AreNormalFormsOf}
use Rattle.sp_spec.specs.Rule.{Fact, Action, Facts, AreNormalFacts, AreNormalActions, IsNormalFormOf, SameAction}
use Rattle.sp_law_equal.specs.Right.{no_names, HaveNoNames}
use Rattle.sp_law_exchange.specs.Laws.{any_variable}
use Rattle.sp_law_exchange.specs.Renaming.{Renaming, renamed, renamed_all, fact_renamed, action_renamed, facts_renamed, values_renamed, kept_by, TakesBack}
use Rattle.sp_law_exchange.proofs.Names.{term_names}
use Rattle.sp_law_exchange.proofs.Terms.{valued_renamed, sorts_renamed, taken_back}

module _ (es : List Equation) (without : HaveNoNames es) where
  module _ (r : Renaming) where
    -- the value of a term without names, with other names
    pub instance_renamed : (v : Values) (t : Term Variable) → MadeOf no_names any_variable t → renamed r (valued v t) ≡ valued (values_renamed r v) t
    instance_renamed v t h = valued_renamed r any_variable v (values_renamed r v) (λ x k. refl) t (term_names no_names (kept_by r) (λ a k. absurd k) any_variable any_variable (λ x p. p) t h)

    mutual
      rewriting_renamed : {t u : Ground} → Rewriting es t u → Rewriting es (renamed r t) (renamed r u)
      rewriting_renamed (at_root e m v s left right) =
          at_root e m (values_renamed r v) (sorts_renamed r v s) (ap (renamed r) left ∙ instance_renamed v e.left (without.left e m)) (ap (renamed r) right ∙ instance_renamed v e.right (without.right e m))
      rewriting_renamed (below w) = below (rewriting_in_renamed w)

      rewriting_in_renamed : {ts us : Grounds} → RewritingIn es ts us → RewritingIn es (renamed_all r ts) (renamed_all r us)
      rewriting_in_renamed (here w) = here (rewriting_renamed w)
      rewriting_in_renamed (there w) = there (rewriting_in_renamed w)

    pub equal_renamed : {t u : Ground} → Equal es t u → Equal es (renamed r t) (renamed r u)
    equal_renamed end = end
    equal_renamed (forth w h) = forth (rewriting_renamed w) (equal_renamed h)
    equal_renamed (back w h) = back (rewriting_renamed w) (equal_renamed h)

    pub all_equal_renamed : (ts us : Grounds) → EqualAll es ts us → EqualAll es (renamed_all r ts) (renamed_all r us)
    all_equal_renamed none none h = tt
    all_equal_renamed none (more u us) h = absurd h
    all_equal_renamed (more t ts) none h = absurd h
    all_equal_renamed (more t ts) (more u us) h = (equal_renamed h.0, all_equal_renamed ts us h.1)

    pub same_action_renamed : (a b : Action ⊥) → SameAction es a b → SameAction es (action_renamed r a) (action_renamed r b)
    same_action_renamed a b h = (h.0, all_equal_renamed a.args b.args h.1)

  -- and where the change can be taken back, normal terms are normal
  module _ (r s : Renaming) (undone : TakesBack r s) where
    none_match_renamed : (t : Ground) → MatchesNone es t → MatchesNone es (renamed r t)
    none_match_renamed t h e m v sorts k =
        h e m (values_renamed s v) (sorts_renamed s v sorts) (sym (instance_renamed s v e.left (without.left e m)) ∙ ap (renamed s) k ∙ taken_back r s undone t)

    mutual
      pub normal_renamed : (t : Ground) → IsNormal es t → IsNormal es (renamed r t)
      normal_renamed (var x) h = h
      normal_renamed (constant c) h = tt
      normal_renamed (name n) h = tt
      normal_renamed (app f ts) h = (all_normal_renamed ts h.0, none_match_renamed (app f ts) h.1)

      pub all_normal_renamed : (ts : Grounds) → AreNormal es ts → AreNormal es (renamed_all r ts)
      all_normal_renamed none h = tt
      all_normal_renamed (more t ts) h = (normal_renamed t h.0, all_normal_renamed ts h.1)

    forms_renamed : (ts us : Grounds) → AreNormalFormsOf es ts us → AreNormalFormsOf es (renamed_all r ts) (renamed_all r us)
    forms_renamed ts us h = (all_equal_renamed r ts us h.0, all_normal_renamed us h.1)

    normal_facts_renamed : (fs gs : List (Fact ⊥)) → AreNormalFacts es fs gs → AreNormalFacts es (map (fact_renamed r) fs) (map (fact_renamed r) gs)
    normal_facts_renamed [] [] h = tt
    normal_facts_renamed [] (g ∷ gs) h = absurd h
    normal_facts_renamed (f ∷ fs) [] h = absurd h
    normal_facts_renamed (f ∷ fs) (g ∷ gs) h = (h.0, h.1, forms_renamed f.args g.args h.2, normal_facts_renamed fs gs h.3)

    normal_actions_renamed : (xs ys : List (Action ⊥)) → AreNormalActions es xs ys → AreNormalActions es (map (action_renamed r) xs) (map (action_renamed r) ys)
    normal_actions_renamed [] [] h = tt
    normal_actions_renamed [] (b ∷ bs) h = absurd h
    normal_actions_renamed (a ∷ rest) [] h = absurd h
    normal_actions_renamed (a ∷ rest) (b ∷ bs) h = (h.0, forms_renamed a.args b.args h.1, normal_actions_renamed rest bs h.2)

    pub normal_form_renamed : (f g : Facts ⊥) → IsNormalFormOf es f g → IsNormalFormOf es (facts_renamed r f) (facts_renamed r g)
    normal_form_renamed f g h = record {
      premises = normal_facts_renamed f.premises g.premises h.premises;
      actions = normal_actions_renamed f.actions g.actions h.actions;
      conclusions = normal_facts_renamed f.conclusions g.conclusions h.conclusions;
    }
