-- Where matching finds bindings beside an instance, all values that agree with them make the pattern that instance.
use Rattle.std.proofs.Common.{◌≡◌, Bool, true, false, List, [], ◌∷◌, map, Option, Some, None, option_and_then, refl, sym, ap, ap₂, ◌∙◌, subst}
use Rattle.std.specs.Str.{bytes_eq}
use Rattle.std.proofs.lemmas.Bool.{and_parts}
use Rattle.std.proofs.lemmas.Slice.Eq.{bytes_eq-Decides}
use Rattle.sp_spec.specs.Term.{Variable, Terms, Grounds, Values, valued_all}
use Rattle.sp_spec.specs.Same.{no_test}
use Rattle.sp_spec.specs.Matching.{never_has_sort, Agrees}
use Rattle.sp_spec.specs.Rule.{Fact, Action, Facts, fact_at, action_at, facts_at}
use Rattle.sp_law_equal.specs.Matching.{Bound, matched_all}
use Rattle.sp_spec.proofs.Same.{no_test_decides}
use Rattle.sp_spec.proofs.Bindings.{all_given}
use Rattle.sp_law_run.specs.Taken.{same_choice}
use Rattle.sp_law_log_steps.specs.Found.{matched_facts, matched_actions, matched_instance}
use Rattle.sp_log.specs.Checking.{alike_facts, alike_actions, are_alike}
use Rattle.sp_spec.proofs.Facts.{made_facts, made_fact, made_action}

-- values that agree with what is found fit, and agree with what was there
abbrev Giving : (Values → Type 0) → List Bound → Option (List Bound) → Type 0
Giving Fits bs None = Unit {0}
Giving Fits bs (Some cs) = (v : Values) → Agrees v cs → Fits v × Agrees v bs

-- one part, then the others
module _ (First Others Both : Values → Type 0) (join : (v : Values) → First v → Others v → Both v) where
  in_turn : (bs : List Bound) (o : Option (List Bound)) (next : List Bound → Option (List Bound)) → Giving First bs o
      → ((cs : List Bound) → Giving Others cs (next cs)) → Giving Both bs (option_and_then next o)
  in_turn bs None next h k = tt
  in_turn bs (Some cs) next h k = by_last (next cs) (k cs)
    where
      by_last : (p : Option (List Bound)) → Giving Others cs p → Giving Both bs p
      by_last None m = tt
      by_last (Some ds) m = λ v a. let b = m v a in let c = h v b.1 in (join v c.0 b.0, c.1)

matched_all_give : (ps : Terms Variable) (ts : Grounds) (bs : List Bound) → Giving (λ v. valued_all v ps ≡ ts) bs (matched_all ps ts bs)
matched_all_give ps ts bs = by_answer (matched_all ps ts bs) refl
  where
    by_answer : (o : Option (List Bound)) → matched_all ps ts bs ≡ o → Giving (λ v. valued_all v ps ≡ ts) bs o
    by_answer None e = tt
    by_answer (Some cs) e = (all_given no_test no_test_decides never_has_sort ps ts bs cs e).agree

same_choice_tells : (b c : Bool) → same_choice b c ≡ true → b ≡ c
same_choice_tells true c e = sym e
same_choice_tells false true e = absurd cc
same_choice_tells false false e = refl

facts_give : (fs : List (Fact Variable)) (gs : List (Fact ⊥)) (bs : List Bound) → alike_facts fs gs ≡ true → Giving (λ v. map (fact_at v) fs ≡ gs) bs (matched_facts fs gs bs)
facts_give [] [] bs e = λ v a. (refl, a)
facts_give [] (g ∷ gs) bs e = tt
facts_give (f ∷ fs) [] bs e = tt
facts_give (f ∷ fs) (g ∷ gs) bs e =
    let both = and_parts _ (alike_facts fs gs) e in
    let kind = and_parts (bytes_eq f.symbol g.symbol) (same_choice f.persistent g.persistent) both.0 in
    in_turn (λ v. valued_all v f.args ≡ g.args) (λ v. map (fact_at v) fs ≡ gs) (λ v. map (fact_at v) (f ∷ fs) ≡ g ∷ gs)
    (λ v s t.
    ap₂ (λ (h : Fact ⊥) (hs : List (Fact ⊥)). h ∷ hs)
    (ap (λ x. made_fact x f.persistent (valued_all v f.args)) ((bytes_eq-Decides f.symbol g.symbol).0 kind.0)
    ∙ ap (λ x. made_fact g.symbol x (valued_all v f.args)) (same_choice_tells f.persistent g.persistent kind.1)
    ∙ ap (made_fact g.symbol g.persistent) s) t)
    bs (matched_all f.args g.args bs) (λ cs. matched_facts fs gs cs) (matched_all_give f.args g.args bs) (λ cs. facts_give fs gs cs both.1)

actions_give : (xs : List (Action Variable)) (ys : List (Action ⊥)) (bs : List Bound) → alike_actions xs ys ≡ true
    → Giving (λ v. map (action_at v) xs ≡ ys) bs (matched_actions xs ys bs)
actions_give [] [] bs e = λ v a. (refl, a)
actions_give [] (y ∷ ys) bs e = tt
actions_give (x ∷ xs) [] bs e = tt
actions_give (x ∷ xs) (y ∷ ys) bs e =
    let both = and_parts (bytes_eq x.symbol y.symbol) (alike_actions xs ys) e in
    in_turn (λ v. valued_all v x.args ≡ y.args) (λ v. map (action_at v) xs ≡ ys) (λ v. map (action_at v) (x ∷ xs) ≡ y ∷ ys)
    (λ v s t.
    ap₂ (λ (h : Action ⊥) (hs : List (Action ⊥)). h ∷ hs)
    (ap (λ z. made_action z (valued_all v x.args)) ((bytes_eq-Decides x.symbol y.symbol).0 both.0) ∙ ap (made_action y.symbol) s) t)
    bs (matched_all x.args y.args bs) (λ cs. matched_actions xs ys cs) (matched_all_give x.args y.args bs) (λ cs. actions_give xs ys cs both.1)

abbrev Others : Facts Variable → Facts ⊥ → Values → Type 0
Others p f v = (map (action_at v) p.actions ≡ f.actions) × (map (fact_at v) p.conclusions ≡ f.conclusions)

giving : (p : Facts Variable) (f : Facts ⊥) → are_alike p f ≡ true → Giving (λ v. facts_at v p ≡ f) [] (matched_instance p f)
giving p f e =
    let both = and_parts (alike_facts p.premises f.premises) _ e in
    let later = and_parts (alike_actions p.actions f.actions) (alike_facts p.conclusions f.conclusions) both.1 in
    in_turn (λ v. map (fact_at v) p.premises ≡ f.premises) (Others p f) (λ v. facts_at v p ≡ f)
    (λ v s t.
    ap (λ (x : List (Fact ⊥)). made_facts x (map (action_at v) p.actions) (map (fact_at v) p.conclusions)) s
    ∙ ap (λ (x : List (Action ⊥)). made_facts f.premises x (map (fact_at v) p.conclusions)) t.0
    ∙ ap (made_facts f.premises f.actions) t.1)
    [] (matched_facts p.premises f.premises [])
    (λ bs. option_and_then (λ cs. matched_facts p.conclusions f.conclusions cs) (matched_actions p.actions f.actions bs))
    (facts_give p.premises f.premises [] both.0)
    (λ bs.
    in_turn (λ v. map (action_at v) p.actions ≡ f.actions) (λ v. map (fact_at v) p.conclusions ≡ f.conclusions) (Others p f) (λ v s t. (s, t)) bs
    (matched_actions p.actions f.actions bs) (λ cs. matched_facts p.conclusions f.conclusions cs) (actions_give p.actions f.actions bs later.0)
    (λ cs. facts_give p.conclusions f.conclusions cs later.1))

-- the values that are found make the rule's facts the instance
pub found_gives : (p : Facts Variable) (f : Facts ⊥) → are_alike p f ≡ true → (bs : List Bound) → matched_instance p f ≡ Some bs
    → (v : Values) → Agrees v bs → facts_at v p ≡ f
found_gives p f e bs found v a = (subst (λ o. Giving (λ w. facts_at w p ≡ f) [] o) found (giving p f e) v a).0
