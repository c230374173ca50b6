-- Where values make a pattern a term, matching finds bindings with which they agree.
use Rattle.std.proofs.Common.{◌≡◌, Bool, true, false, cond, if◌then◌else◌, List, [], ◌∷◌, ◌++◌, map, Option, Some, None, option_and_then, refl, sym, ap, ◌∙◌}
use Rattle.std.proofs.lemmas.Bool.{eq-eqb}
use Rattle.std.proofs.lemmas.Slice.Eq.{bytes_eq-Decides}
use Rattle.sp_spec.proofs.Lists.{every_append}
use Rattle.sp_spec.specs.Term.{Variable, Term, var, constant, name, app, Terms, none, more, Ground, Values, valued, valued_all}
use Rattle.sp_spec.specs.Same.{same_variable, same_term}
use Rattle.sp_spec.specs.Signature.{RespectsSorts}
use Rattle.sp_spec.specs.Rule.{Fact, Action, Facts, fact_at, action_at, facts_at}
use Rattle.sp_law_equal.specs.Matching.{Bound, lookup, by_bound, matched, matched_all}
use Rattle.sp_spec.proofs.Same.{same_variable_decides, same_term_decides}
use Rattle.sp_law_equal.proofs.Tests.{has_sort_decides}
use Rattle.sp_law_run.specs.Given.{AgreeWith}
use Rattle.sp_law_log_steps.specs.Found.{matched_facts, matched_actions, matched_instance}

-- values that agree with the bindings have what is found for a variable
lookup_agrees : (v : Values) (bs : List Bound) (x : Variable) (u : Ground) → lookup bs x ≡ Some u → AgreeWith v bs → v x ≡ u
lookup_agrees v [] x u e a = absurd cc
lookup_agrees v (b ∷ bs) x u e a = by_test (same_variable b.0 x) (λ s. (same_variable_decides b.0 x).0 s) e (λ e'. lookup_agrees v bs x u e' a.1)
  where
    by_test : (c : Bool) → (c ≡ true → b.0 ≡ x) → cond c (Some b.1) (lookup bs x) ≡ Some u → (lookup bs x ≡ Some u → v x ≡ u) → v x ≡ u
    by_test true same e' next = let is : b.1 ≡ u = cc in ap v (sym (same refl)) ∙ a.0 ∙ is
    by_test false same e' next = next e'

module _ (w : Values) where
  -- bindings are found with which the values agree
  pub record Fitting (found : Option (List Bound)) : Type 0 where
    pub bindings : List Bound
    pub is : found ≡ Some bindings
    pub agree : AgreeWith w bindings

  -- one part, then the others
  then_fits : (o : Option (List Bound)) (next : List Bound → Option (List Bound)) → Fitting o → ((cs : List Bound) → AgreeWith w cs → Fitting (next cs))
      → Fitting (option_and_then next o)
  then_fits o next first others =
      let second = others first.bindings first.agree in
      record { bindings = second.bindings; is = ap (option_and_then next) first.is ∙ second.is; agree = second.agree }

  -- a test
  tested : (c : Bool) (o : Option (List Bound)) → c ≡ true → Fitting o → Fitting (if c then o else None)
  tested c o e f = record { bindings = f.bindings; is = ap (λ (d : Bool). if d then o else None) e ∙ f.is; agree = f.agree }

  same_bindings : (bs : List Bound) → AgreeWith w bs → Fitting (Some bs)
  same_bindings bs a = record { bindings = bs; is = refl; agree = a }

  module _ (sorts : RespectsSorts w) where
    bound_fits : (o : Option Ground) (x : Variable) (bs : List Bound) → lookup bs x ≡ o → AgreeWith w bs → Fitting (by_bound o x (w x) bs)
    bound_fits (Some u) x bs e a =
        tested (same_term u (w x)) (Some bs) ((same_term_decides u (w x)).1 (sym (lookup_agrees w bs x u e a))) (same_bindings bs a)
    bound_fits None x bs e a =
        tested _ (Some (bs ++ (x, w x) ∷ [])) ((has_sort_decides x.sort (w x)).1 (sorts x))
        (same_bindings (bs ++ (x, w x) ∷ []) (every_append (λ (b : Bound). w b.0 ≡ b.1) bs ((x, w x) ∷ []) a (refl, tt)))

    mutual
      matched_fits : (p : Term Variable) (bs : List Bound) → AgreeWith w bs → Fitting (matched p (valued w p) bs)
      matched_fits (var x) bs a = bound_fits (lookup bs x) x bs refl a
      matched_fits (constant c) bs a = tested _ (Some bs) ((bytes_eq-Decides c c).1 refl) (same_bindings bs a)
      matched_fits (name m) bs a = tested _ (Some bs) (eq-eqb m m refl) (same_bindings bs a)
      matched_fits (app f ps) bs a = tested _ (matched_all ps (valued_all w ps) bs) ((bytes_eq-Decides f f).1 refl) (matched_all_fit ps bs a)

      matched_all_fit : (ps : Terms Variable) (bs : List Bound) → AgreeWith w bs → Fitting (matched_all ps (valued_all w ps) bs)
      matched_all_fit none bs a = same_bindings bs a
      matched_all_fit (more p ps) bs a =
          then_fits (matched p (valued w p) bs) (λ cs. matched_all ps (valued_all w ps) cs) (matched_fits p bs a) (λ cs b. matched_all_fit ps cs b)

    facts_fit : (fs : List (Fact Variable)) (bs : List Bound) → AgreeWith w bs → Fitting (matched_facts fs (map (fact_at w) fs) bs)
    facts_fit [] bs a = same_bindings bs a
    facts_fit (f ∷ fs) bs a =
        then_fits (matched_all f.args (valued_all w f.args) bs) (λ cs. matched_facts fs (map (fact_at w) fs) cs) (matched_all_fit f.args bs a) (λ cs b. facts_fit fs cs b)

    actions_fit : (xs : List (Action Variable)) (bs : List Bound) → AgreeWith w bs → Fitting (matched_actions xs (map (action_at w) xs) bs)
    actions_fit [] bs a = same_bindings bs a
    actions_fit (x ∷ xs) bs a =
        then_fits (matched_all x.args (valued_all w x.args) bs) (λ cs. matched_actions xs (map (action_at w) xs) cs) (matched_all_fit x.args bs a)
        (λ cs b. actions_fit xs cs b)

    -- the facts of an instance
    pub instance_fits : (p : Facts Variable) → Fitting (matched_instance p (facts_at w p))
    instance_fits p =
        let conclusions = map (fact_at w) p.conclusions in
        then_fits (matched_facts p.premises (map (fact_at w) p.premises) [])
        (λ bs. option_and_then (λ cs. matched_facts p.conclusions conclusions cs) (matched_actions p.actions (map (action_at w) p.actions) bs))
        (facts_fit p.premises [] tt)
        (λ bs a.
        then_fits (matched_actions p.actions (map (action_at w) p.actions) bs) (λ cs. matched_facts p.conclusions conclusions cs) (actions_fit p.actions bs a)
        (λ cs b. facts_fit p.conclusions cs b))
