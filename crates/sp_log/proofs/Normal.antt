-- The test of normal form tells whether facts are their own normal form.
use Rattle.std.proofs.Common.{◌≡◌, true, List, [], ◌∷◌, ◌++◌, map, refl, sym, ap, ap₂, ◌∙◌}
use Rattle.std.specs.List.{list_all}
use Rattle.std.proofs.lemmas.Bool.{and_parts, and_from}
use Rattle.std.proofs.lemmas.List.Folds.{list_all-append}
use Rattle.sp_spec.specs.Term.{Grounds}
use Rattle.sp_spec.specs.Signature.{Equation}
use Rattle.sp_spec.specs.Rule.{Fact, Action, Facts, AreNormalFacts, AreNormalActions, IsNormalFormOf}
use Rattle.sp_spec.proofs.Same.{same_terms_decides}
use Rattle.sp_spec.proofs.Facts.{made_fact, made_action, made_facts}
use Rattle.sp_law_equal.specs.Normal.{normal_all, normal_fact, normal_action, normal_facts}
use Rattle.sp_law_equal.proofs.Forms.{normal_all_of_normal}
use Rattle.sp_log.specs.Checking.{stay, are_in_normal_form}

module _ (es : List Equation) where
  facts_stay : (fs : List (Fact ⊥)) → list_all (stay es) (map (λ f. f.args) fs) ≡ true → map (normal_fact es) fs ≡ fs
  facts_stay [] e = refl
  facts_stay (f ∷ fs) e =
      let both = and_parts (stay es f.args) _ e in
      ap₂ (λ g gs. g ∷ gs) (ap (made_fact f.symbol f.persistent) ((same_terms_decides (normal_all es f.args) f.args).0 both.0)) (facts_stay fs both.1)

  actions_stay : (xs : List (Action ⊥)) → list_all (stay es) (map (λ a. a.args) xs) ≡ true → map (normal_action es) xs ≡ xs
  actions_stay [] e = refl
  actions_stay (a ∷ xs) e =
      let both = and_parts (stay es a.args) _ e in
      ap₂ (λ b bs. b ∷ bs) (ap (made_action a.symbol) ((same_terms_decides (normal_all es a.args) a.args).0 both.0)) (actions_stay xs both.1)

  -- facts that pass the test are their own normal form
  pub normal_form_tells : (f : Facts ⊥) → are_in_normal_form es f ≡ true → normal_facts es f ≡ f
  normal_form_tells f e =
      let premises : List Grounds = map (λ p. p.args) f.premises in
      let actions : List Grounds = map (λ a. a.args) f.actions in
      let conclusions : List Grounds = map (λ c. c.args) f.conclusions in
      let first = and_parts (list_all (stay es) premises) _ (sym (list_all-append (stay es) premises (actions ++ conclusions)) ∙ e) in
      let later = and_parts (list_all (stay es) actions) _ (sym (list_all-append (stay es) actions conclusions) ∙ first.1) in
      ap (λ x. made_facts x (map (normal_action es) f.actions) (map (normal_fact es) f.conclusions)) (facts_stay f.premises first.0)
      ∙ ap (λ x. made_facts f.premises x (map (normal_fact es) f.conclusions)) (actions_stay f.actions later.0)
      ∙ ap (made_facts f.premises f.actions) (facts_stay f.conclusions later.1)

  facts_stayed : (fs gs : List (Fact ⊥)) → AreNormalFacts es fs gs → list_all (stay es) (map (λ g. g.args) gs) ≡ true
  facts_stayed fs [] h = refl
  facts_stayed [] (g ∷ gs) h = absurd h
  facts_stayed (f ∷ fs) (g ∷ gs) h =
      and_from _ _ ((same_terms_decides (normal_all es g.args) g.args).1 (normal_all_of_normal es g.args h.2.1)) (facts_stayed fs gs h.3)

  actions_stayed : (xs ys : List (Action ⊥)) → AreNormalActions es xs ys → list_all (stay es) (map (λ b. b.args) ys) ≡ true
  actions_stayed xs [] h = refl
  actions_stayed [] (b ∷ ys) h = absurd h
  actions_stayed (a ∷ xs) (b ∷ ys) h =
      and_from _ _ ((same_terms_decides (normal_all es b.args) b.args).1 (normal_all_of_normal es b.args h.1.1)) (actions_stayed xs ys h.2)

  -- the normal form of facts passes it
  pub normal_form_passes : (f g : Facts ⊥) → IsNormalFormOf es f g → are_in_normal_form es g ≡ true
  normal_form_passes f g h =
      let premises : List Grounds = map (λ p. p.args) g.premises in
      let actions : List Grounds = map (λ a. a.args) g.actions in
      let conclusions : List Grounds = map (λ c. c.args) g.conclusions in
      list_all-append (stay es) premises (actions ++ conclusions)
      ∙ and_from _ _ (facts_stayed f.premises g.premises h.premises)
      (list_all-append (stay es) actions conclusions
      ∙ and_from _ _ (actions_stayed f.actions g.actions h.actions) (facts_stayed f.conclusions g.conclusions h.conclusions))
