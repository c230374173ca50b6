-- Some way to narrow the terms, and the facts, of a rule reaches the normal forms of their values.
use Rattle.std.proofs.Common.{◌≡◌, ℕ, ◌≤◌, List, [], ◌∷◌, map, refl, sym, ap, ap₂, ◌∙◌, subst, arith}
use Rattle.sp_spec.specs.Lists.{Every}
use Rattle.sp_spec.specs.Term.{Variable, Term, var, constant, name, app, Terms, none, more, Grounds, Values, valued, valued_all}
use Rattle.sp_spec.specs.Signature.{Equation, Signature, HasSymbol, IsOver, AreOver}
use Rattle.sp_spec.specs.Rule.{Fact, Action, Facts, OfArguments, fact_at, action_at, facts_at}
use Rattle.sp_spec.proofs.Lists.{every_weaken, map-map}
use Rattle.sp_law_equal.specs.Pointwise.{EachWith}
use Rattle.sp_law_equal.specs.NormalForms.{HasNormalForms}
use Rattle.sp_law_equal.specs.Normal.{normal, normal_all, normal_fact, normal_action, normal_facts}
use Rattle.sp_law_equal.proofs.Forms.{normal_of_normal, are_normal}
use Rattle.sp_law_equal.proofs.Over.{count_normal, normal_all_over}
use Rattle.sp_spec_forms.specs.Shifted.{above, above_all}
use Rattle.sp_spec_forms.specs.Narrowing.{Ways, both, each, choices, narrow, narrow_all, narrow_fact, narrow_action, narrow_facts}
use Rattle.sp_law_forms.specs.Laws.{IsNormalValuation}
use Rattle.sp_law_forms.proofs.Facts.{made_fact, made_action}
use Rattle.sp_law_forms.proofs.Ways.{Completes, Nothing, completes_done, completes_in_turn, completes_both, completes_map, completes_each}
use Rattle.sp_law_forms.proofs.Choice.{completes_choices}
use Rattle.sp_law_system.proofs.Facts.{parts_of, parts_same}

-- elements that are made the same, one by one
each_same : {A B C : Type 0} (f : A → C) (g : B → C) (xs : List A) (ys : List B) → EachWith (λ x y. g y ≡ f x) xs ys → map g ys ≡ map f xs
each_same f g [] [] h = refl
each_same f g [] (y ∷ ys) h = absurd h
each_same f g (x ∷ xs) [] h = absurd h
each_same f g (x ∷ xs) (y ∷ ys) h = ap₂ (λ z zs. z ∷ zs) h.0 (each_same f g xs ys h.1)

module _ (signature : Signature) (good : HasNormalForms signature) (first : ℕ) (given : Values) (normal_given : IsNormalValuation signature given) where
  abbrev es : List Equation
  es = signature.equations

  abbrev Reaches : {A : Type 0} → Ways A → (Values → A → Type 0) → Type 0
  Reaches m F = Completes (IsNormalValuation signature) first given (Nothing (IsNormalValuation signature) first given) m F

  abbrev Start : Values → Type 0
  Start = Nothing (IsNormalValuation signature) first given

  abbrev ToNormal : Term Variable → Values → Term Variable → Type 0
  ToNormal t w u = valued w u ≡ normal es (valued given t)

  abbrev ToNormals : Terms Variable → Values → Terms Variable → Type 0
  ToNormals ts w us = valued_all w us ≡ normal_all es (valued_all given ts)

  mutual
    completes_narrow : (t : Term Variable) → above t ≤ first → IsOver signature.symbols (valued given t) → Reaches (narrow es t) (ToNormal t)
    completes_narrow (var x) le o =
        completes_done (IsNormalValuation signature) first given Start (ToNormal (var x)) (var x)
        (λ w a p. sym (a x (omega (arith, le))) ∙ sym (normal_of_normal es (given x) (normal_given.1 x)))
    completes_narrow (constant c) le o =
        completes_done (IsNormalValuation signature) first given Start (ToNormal (constant c)) (constant c) (λ w a p. refl)
    completes_narrow (name n) le o =
        completes_done (IsNormalValuation signature) first given Start (ToNormal (name n)) (name n) (λ w a p. refl)
    completes_narrow (app f ts) le o =
        completes_in_turn (IsNormalValuation signature) first given Start (ToNormals ts) (ToNormal (app f ts))
        (narrow_all es ts) (λ us. choices es (app f us)) (completes_narrow_all ts le o.1)
        (λ us.
        completes_choices signature good first given f us (normal_all es (valued_all given ts))
        (are_normal es good.normal_forms (valued_all given ts))
        (subst (HasSymbol signature.symbols f) (sym (count_normal es (valued_all given ts))) o.0, normal_all_over signature.symbols es good.keeps (valued_all given ts) o.1))

    completes_narrow_all : (ts : Terms Variable) → above_all ts ≤ first → AreOver signature.symbols (valued_all given ts) → Reaches (narrow_all es ts) (ToNormals ts)
    completes_narrow_all none le o =
        completes_done (IsNormalValuation signature) first given Start (ToNormals none) none (λ w a p. refl)
    completes_narrow_all (more t ts) le o =
        completes_both (IsNormalValuation signature) first given (ToNormal t) (ToNormals ts) (ToNormals (more t ts)) more
        (narrow es t) (narrow_all es ts)
        (completes_narrow t (omega (arith, le)) o.0)
        (completes_narrow_all ts (omega (arith, le)) o.1)
        (λ w u us e es'. cc)

  -- the terms have small variables, and their values are over the symbols
  abbrev pub Fit : Terms Variable → Type 0
  Fit ts = (above_all ts ≤ first) × AreOver signature.symbols (valued_all given ts)

  abbrev FactTo : Fact Variable → Values → Fact Variable → Type 0
  FactTo f w g = fact_at w g ≡ normal_fact es (fact_at given f)

  abbrev ActionTo : Action Variable → Values → Action Variable → Type 0
  ActionTo a w b = action_at w b ≡ normal_action es (action_at given a)

  completes_fact : (f : Fact Variable) → Fit f.args → Reaches (narrow_fact es f) (FactTo f)
  completes_fact f h =
      completes_map (IsNormalValuation signature) first given Start (ToNormals f.args) (FactTo f) (λ (us : Terms Variable). made_fact f us) (narrow_all es f.args)
      (completes_narrow_all f.args h.0 h.1)
      (λ w us e. ap (λ (ns : Grounds). made_fact f ns) e)

  completes_action : (a : Action Variable) → Fit a.args → Reaches (narrow_action es a) (ActionTo a)
  completes_action a h =
      completes_map (IsNormalValuation signature) first given Start (ToNormals a.args) (ActionTo a) (λ (us : Terms Variable). made_action a us) (narrow_all es a.args)
      (completes_narrow_all a.args h.0 h.1)
      (λ w us e. ap (λ (ns : Grounds). made_action a ns) e)

  completes_list : (fs : List (Fact Variable)) → Every (λ (f : Fact Variable). Fit f.args) fs
      → Reaches (each (narrow_fact es) fs) (λ w gs. EachWith (λ f g. FactTo f w g) fs gs)
  completes_list fs h =
      completes_each (IsNormalValuation signature) first given FactTo (narrow_fact es) fs
      (every_weaken (λ (f : Fact Variable). Fit f.args) (λ f. Reaches (narrow_fact es f) (FactTo f)) completes_fact fs h)

  completes_actions : (xs : List (Action Variable)) → Every (λ (a : Action Variable). Fit a.args) xs
      → Reaches (each (narrow_action es) xs) (λ w ys. EachWith (λ a b. ActionTo a w b) xs ys)
  completes_actions xs h =
      completes_each (IsNormalValuation signature) first given ActionTo (narrow_action es) xs
      (every_weaken (λ (a : Action Variable). Fit a.args) (λ a. Reaches (narrow_action es a) (ActionTo a)) completes_action xs h)

  abbrev FactsTo : Facts Variable → Values → Facts Variable → Type 0
  FactsTo f w g = facts_at w g ≡ normal_facts es (facts_at given f)

  pub completes_facts : (f : Facts Variable) → OfArguments Fit f → Reaches (narrow_facts es f) (FactsTo f)
  completes_facts f h =
      completes_both (IsNormalValuation signature) first given
      (λ w ps. EachWith (λ x y. FactTo x w y) f.premises ps)
      (λ w (r : List (Action Variable) × List (Fact Variable)). EachWith (λ x y. ActionTo x w y) f.actions r.0 × EachWith (λ x y. FactTo x w y) f.conclusions r.1)
      (FactsTo f)
      (λ ps (r : List (Action Variable) × List (Fact Variable)). parts_of ps r.0 r.1)
      (each (narrow_fact es) f.premises)
      (both (λ as' cs. (as', cs)) (each (narrow_action es) f.actions) (each (narrow_fact es) f.conclusions))
      (completes_list f.premises h.premises)
      (completes_both (IsNormalValuation signature) first given
      (λ w as'. EachWith (λ x y. ActionTo x w y) f.actions as')
      (λ w cs. EachWith (λ x y. FactTo x w y) f.conclusions cs)
      (λ w r. EachWith (λ x y. ActionTo x w y) f.actions r.0 × EachWith (λ x y. FactTo x w y) f.conclusions r.1)
      (λ as' cs. (as', cs))
      (each (narrow_action es) f.actions)
      (each (narrow_fact es) f.conclusions)
      (completes_actions f.actions h.actions)
      (completes_list f.conclusions h.conclusions)
      (λ w as' cs p q. (p, q)))
      (λ w ps r p q.
      let one = each_same (λ x. normal_fact es (fact_at given x)) (fact_at w) f.premises ps p ∙ sym (map-map (fact_at given) (normal_fact es) f.premises) in
      let two = each_same (λ x. normal_action es (action_at given x)) (action_at w) f.actions r.0 q.0 ∙ sym (map-map (action_at given) (normal_action es) f.actions) in
      let three = each_same (λ x. normal_fact es (fact_at given x)) (fact_at w) f.conclusions r.1 q.1 ∙ sym (map-map (fact_at given) (normal_fact es) f.conclusions) in
      parts_same (map (fact_at w) ps) (normal_facts es (facts_at given f)).premises (map (action_at w) r.0) (normal_facts es (facts_at given f)).actions
      (map (fact_at w) r.1) (normal_facts es (facts_at given f)).conclusions one two three)
