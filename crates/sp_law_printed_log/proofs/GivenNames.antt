-- What an entry's facts give to the variables of its rule has the names of the rule's facts, of the entry's, and of what stands in for a value.
use Rattle.std.proofs.Common.{◌≡◌, ℕ, suc, List, [], ◌∷◌, ◌++◌, Option, Some, None, unwrap_or, refl, sym, subst}
use Rattle.sp_spec.specs.Lists.{Member, Every}
use Rattle.sp_spec.proofs.Lists.{every_append, every_parts}
use Rattle.sp_spec.specs.Term.{Sort, Names, AllMadeOf, Variable, Ground, Grounds, none, more, Values}
use Rattle.sp_spec.specs.Signature.{Equation}
use Rattle.sp_spec.specs.Rule.{Facts, Declared, Rule, Gives, FactsMadeOf}
use Rattle.sp_law_equal.specs.NormalForms.{HaveNormalForms}
use Rattle.sp_law_equal.specs.Right.{HaveNoNames}
use Rattle.sp_law_equal.specs.Matching.{Bound, lookup}
use Rattle.sp_law_equal.proofs.NormalNames.{normal_all_made}
use Rattle.sp_law_equal.proofs.Made.{each_valued_all}
use Rattle.sp_spec_forms.specs.Numbering.{Form}
use Rattle.sp_spec_forms.specs.Forms.{forms_of, forms}
use Rattle.sp_law_forms.proofs.Whole.{kept_made}
use Rattle.sp_law_log_steps.specs.Found.{matched_instance, stand_in, bound_or_any, given_to, given_of}
use Rattle.sp_law_log_steps.proofs.Matched.{IsInherited, value_found}
use Rattle.sp_law_printed_log.specs.Shown.{no_variable, HasNames}

-- what holds of each variable's name with its value
pub given_each : (P : List ℕ × Ground → Type 0) (v : Values) (k : ℕ) (ds : List Declared) (given : List (List ℕ × Ground)) → Gives k ds given v
    → Every (λ (d : Declared). (x : Variable) → P (d.name, v x)) ds → Every P given
given_each P v k [] given g h = subst (Every P) (sym g) tt
given_each P v k (d ∷ ds) given g h =
    let front = g.0 in
    let back = g.1 in
    let others = every_parts P front back (given_each P v (suc k) ds (front ++ back) g.3 h.1) in
    subst (Every P) (sym g.2) (every_append P front _ others.0 (h.0 (record { sort = d.sort; number = k }), others.1))

module _ (N : Names) where
  names_inherited : IsInherited (HasNames N) (AllMadeOf N no_variable)
  names_inherited = record { under = λ f ts h. h; first = λ t ts h. h.0; rest = λ t ts h. h.1 }

  abbrev HasNamedGiven : List ℕ × Ground → Type 0
  HasNamedGiven g = HasNames N g.1

  given_to_named : (ds : List Declared) (ts : Grounds) → AllMadeOf N no_variable ts → Every HasNamedGiven (given_to ds ts)
  given_to_named [] ts h = tt
  given_to_named (d ∷ ds) none h = tt
  given_to_named (d ∷ ds) (more t ts) h = (h.0, given_to_named ds ts h.1)

  module _ (stands : (s : Sort) → HasNames N (stand_in s)) (p : Facts Variable) (facts : Facts ⊥) (bs : List Bound) (matched : matched_instance p facts ≡ Some bs)
      (named : FactsMadeOf N no_variable facts) where
    value_named : (x : Variable) → HasNames N (bound_or_any bs x)
    value_named x = by_value (lookup bs x) refl
      where
        by_value : (o : Option Ground) → lookup bs x ≡ o → HasNames N (unwrap_or o (stand_in x.sort))
        by_value None e = stands x.sort
        by_value (Some u) e = (value_found (HasNames N) (AllMadeOf N no_variable) names_inherited p facts bs matched named x u e).1

  -- what a form of the rule gives
  pub form_given_named : (es : List Equation) → HaveNormalForms es → HaveNoNames es → (rule : Rule) → FactsMadeOf N (λ (x : Variable). Unit {0}) rule.facts
      → (form : Form) → Member form (forms es rule) → ((s : Sort) → HasNames N (stand_in s)) → (facts : Facts ⊥) (bs : List Bound)
      → matched_instance form.facts facts ≡ Some bs → FactsMadeOf N no_variable facts → Every HasNamedGiven (given_of es (forms_of es rule) form bs)
  form_given_named es good nameless rule made form member stands facts bs matched named =
      let kept = kept_made N es nameless rule made form member in
      let values = each_valued_all N (λ (x : Variable). Unit {0}) no_variable (bound_or_any bs) (λ x h. value_named stands form.facts facts bs matched named x) form.kept kept in
      given_to_named rule.variables _ (normal_all_made es good nameless N no_variable _ values)
