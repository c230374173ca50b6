-- The normal forms of facts, actions and instances of rules: there is one, and only one.
use Rattle.std.proofs.Common.{◌≡◌, ◌↔◌, List, [], ◌∷◌, map, refl, sym, ap, ap₂, ◌∙◌}
use Rattle.sp_spec.specs.Term.{Ground}
use Rattle.sp_spec.specs.Signature.{Equation}
use Rattle.sp_spec.specs.Equal.{AreNormalFormsOf}
use Rattle.sp_spec.specs.Rule.{Fact, Action, Facts, fact_at, action_at, facts_at, SameFact, SameAction, AreNormalFacts, AreNormalActions, IsNormalFormOf}
use Rattle.sp_spec.proofs.Lists.{every_all, map_each, map-map}
use Rattle.sp_law_equal.specs.NormalForms.{HaveNormalForms}
use Rattle.sp_law_equal.specs.Normal.{normal, normal_fact, normal_action, normal_facts}
use Rattle.sp_law_equal.specs.Pointwise.{EachWith, AreSameFacts}
use Rattle.sp_law_equal.proofs.Pointwise.{map_same}
use Rattle.sp_law_equal.proofs.Forms.{equal_all_normal, decides_all}
use Rattle.sp_law_equal.proofs.Values.{normal_forms, normal_forms_same, normal_value_all}
use Rattle.sp_spec.proofs.Facts.{same_fact_parts, same_action_parts, made_fact, made_action, made_facts}

same_facts_parts : (f g : Facts ⊥) → f.premises ≡ g.premises → f.actions ≡ g.actions → f.conclusions ≡ g.conclusions → f ≡ g
same_facts_parts f g p a c =
    ap (λ x. made_facts x f.actions f.conclusions) p ∙ ap (λ x. made_facts g.premises x f.conclusions) a ∙ ap (made_facts g.premises g.actions) c

map_map_same : {A B C : Type 0} (a b : A → B) (n : B → C) → ((x : A) → n (a x) ≡ n (b x)) → (xs : List A) → map n (map a xs) ≡ map n (map b xs)
map_map_same a b n e xs = map-map a n xs ∙ map_each _ _ xs (every_all _ e xs) ∙ sym (map-map b n xs)

module _ (es : List Equation) (good : HaveNormalForms es) where
  -- the normal form of facts is one of them
  are_normal_facts : (fs : List (Fact ⊥)) → AreNormalFacts es fs (map (normal_fact es) fs)
  are_normal_facts [] = tt
  are_normal_facts (f ∷ fs) = (refl, refl, normal_forms es good f.args, are_normal_facts fs)

  are_normal_actions : (xs : List (Action ⊥)) → AreNormalActions es xs (map (normal_action es) xs)
  are_normal_actions [] = tt
  are_normal_actions (a ∷ xs) = (refl, normal_forms es good a.args, are_normal_actions xs)

  pub facts_normal_form : (f : Facts ⊥) → IsNormalFormOf es f (normal_facts es f)
  facts_normal_form f = record {
    premises = are_normal_facts f.premises;
    actions = are_normal_actions f.actions;
    conclusions = are_normal_facts f.conclusions;
  }

  normal_fact_only : (f g : Fact ⊥) → f.symbol ≡ g.symbol → f.persistent ≡ g.persistent → AreNormalFormsOf es f.args g.args → g ≡ normal_fact es f
  normal_fact_only f g s p h = same_fact_parts g (normal_fact es f) (sym s) (sym p) (normal_forms_same es good f.args g.args h)

  normal_action_only : (a b : Action ⊥) → a.symbol ≡ b.symbol → AreNormalFormsOf es a.args b.args → b ≡ normal_action es a
  normal_action_only a b s h = same_action_parts b (normal_action es a) (sym s) (normal_forms_same es good a.args b.args h)

  pub normal_facts_only : (fs gs : List (Fact ⊥)) → AreNormalFacts es fs gs → gs ≡ map (normal_fact es) fs
  normal_facts_only [] [] h = refl
  normal_facts_only [] (g ∷ gs) h = absurd h
  normal_facts_only (f ∷ fs) [] h = absurd h
  normal_facts_only (f ∷ fs) (g ∷ gs) h = ap₂ (λ z zs. z ∷ zs) (normal_fact_only f g h.0 h.1 h.2) (normal_facts_only fs gs h.3)

  pub normal_actions_only : (xs ys : List (Action ⊥)) → AreNormalActions es xs ys → ys ≡ map (normal_action es) xs
  normal_actions_only [] [] h = refl
  normal_actions_only [] (b ∷ ys) h = absurd h
  normal_actions_only (a ∷ xs) [] h = absurd h
  normal_actions_only (a ∷ xs) (b ∷ ys) h = ap₂ (λ z zs. z ∷ zs) (normal_action_only a b h.0 h.1) (normal_actions_only xs ys h.2)

  -- it is the only one
  pub facts_normal_form_only : (f g : Facts ⊥) → IsNormalFormOf es f g → g ≡ normal_facts es f
  facts_normal_form_only f g h =
      same_facts_parts g (normal_facts es f)
      (normal_facts_only f.premises g.premises h.premises)
      (normal_actions_only f.actions g.actions h.actions)
      (normal_facts_only f.conclusions g.conclusions h.conclusions)

  -- facts are the same where their normal forms are
  pub same_fact_decides : (f g : Fact ⊥) → SameFact es f g ↔ (normal_fact es f ≡ normal_fact es g)
  same_fact_decides f g = (
    λ h. same_fact_parts (normal_fact es f) (normal_fact es g) h.0 h.1 (equal_all_normal es good f.args g.args h.2),
    λ e. (ap (λ x. x.symbol) e, ap (λ x. x.persistent) e, (decides_all es good f.args g.args).1 (ap (λ x. x.args) e)),
  )

  pub same_action_decides : (a b : Action ⊥) → SameAction es a b ↔ (normal_action es a ≡ normal_action es b)
  same_action_decides a b = (
    λ h. same_action_parts (normal_action es a) (normal_action es b) h.0 (equal_all_normal es good a.args b.args h.1),
    λ e. (ap (λ x. x.symbol) e, (decides_all es good a.args b.args).1 (ap (λ x. x.args) e)),
  )

  pub normal_facts_same : (fs gs : List (Fact ⊥)) → EachWith (SameFact es) fs gs → map (normal_fact es) fs ≡ map (normal_fact es) gs
  normal_facts_same = map_same (SameFact es) (normal_fact es) (λ f g s. (same_fact_decides f g).0 s)

  -- facts that are the same one by one have one normal form
  pub same_facts_normal : (f g : Facts ⊥) → AreSameFacts es f g → normal_facts es f ≡ normal_facts es g
  same_facts_normal f g h =
      same_facts_parts (normal_facts es f) (normal_facts es g)
      (normal_facts_same f.premises g.premises h.premises)
      (map_same (SameAction es) (normal_action es) (λ x y s. (same_action_decides x y).0 s) f.actions g.actions h.actions)
      (normal_facts_same f.conclusions g.conclusions h.conclusions)

  pub facts_normal_forms_same : (f f' g g' : Facts ⊥) → AreSameFacts es f f' → IsNormalFormOf es f g → IsNormalFormOf es f' g' → g ≡ g'
  facts_normal_forms_same f f' g g' s h h' = facts_normal_form_only f g h ∙ same_facts_normal f f' s ∙ sym (facts_normal_form_only f' g' h')

  pub one_normal_form : (f g g' : Facts ⊥) → IsNormalFormOf es f g → IsNormalFormOf es f g' → g ≡ g'
  one_normal_form f g g' h h' = facts_normal_form_only f g h ∙ sym (facts_normal_form_only f g' h')

  -- the values of an instance may be taken in normal form
  module _ {V : Type 0} (v : V → Ground) where
    abbrev at_normal : V → Ground
    at_normal x = normal es (v x)

    pub fact_value : (f : Fact V) → normal_fact es (fact_at v f) ≡ normal_fact es (fact_at (λ x. normal es (v x)) f)
    fact_value f = ap (made_fact f.symbol f.persistent) (normal_value_all es good v f.args)

    pub action_value : (a : Action V) → normal_action es (action_at v a) ≡ normal_action es (action_at (λ x. normal es (v x)) a)
    action_value a = ap (made_action a.symbol) (normal_value_all es good v a.args)

    pub facts_value : (f : Facts V) → normal_facts es (facts_at v f) ≡ normal_facts es (facts_at (λ x. normal es (v x)) f)
    facts_value f =
        same_facts_parts (normal_facts es (facts_at v f)) (normal_facts es (facts_at at_normal f))
        (map_map_same (fact_at v) (fact_at at_normal) (normal_fact es) fact_value f.premises)
        (map_map_same (action_at v) (action_at at_normal) (normal_action es) action_value f.actions)
        (map_map_same (fact_at v) (fact_at at_normal) (normal_fact es) fact_value f.conclusions)
