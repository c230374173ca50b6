-- The values that an instance gives: those of its bindings are a valuation, the first form that matches is found, and the rule's variables are given
-- their values by their names.
use Rattle.std.proofs.Common.{◌≡◌, ◌⊎◌, ⊎_elim, ℕ, suc, Bool, true, false, cond, List, [], ◌∷◌, map, Option, Some, None, option_map, option_and_then, unwrap_or, inl, inr, refl, sym, ap, ◌∙◌, subst, true≢false}
use Rattle.std.specs.Option.{option_or}
use Rattle.std.specs.Str.{bytes_eq}
use Rattle.std.proofs.lemmas.Slice.Eq.{bytes_eq-Decides}
use Rattle.sp_spec.specs.Lists.{Member, Distinct}
use Rattle.sp_spec.proofs.Lists.{member_map}
use Rattle.sp_spec.specs.Term.{Sort, Msg, Fresh, Pub, Variable, Ground, Values, valued_all}
use Rattle.sp_spec.specs.Signature.{Equation, Signature, IsOver, AreOver, IsValue, IsValuation}
use Rattle.sp_spec.specs.Matching.{Agrees}
use Rattle.sp_spec.specs.Rule.{Facts, Declared, Rule, OfArguments, Gives}
use Rattle.sp_law_equal.specs.Matching.{Bound, lookup}
use Rattle.sp_law_equal.specs.NormalForms.{KeepSymbols}
use Rattle.sp_law_equal.specs.Normal.{normal_all}
use Rattle.sp_law_equal.proofs.Forms.{normals, normal_has_sort}
use Rattle.sp_spec_forms.specs.Numbering.{Form}
use Rattle.sp_spec_forms.specs.Forms.{RuleForms, rule_variables, forms_of, forms_named}
use Rattle.sp_law_log_steps.specs.Found.{matched_instance, stand_in, bound_or_any, given_to, given_of, given_by_first, given_by}
use Rattle.sp_law_log_steps.proofs.Matched.{over_inherited, value_found}

-- ---- the values of bindings

-- they agree with them
pub own_agree : (bs : List Bound) → Agrees (bound_or_any bs) bs
own_agree bs x t e = ap (λ o. unwrap_or o (stand_in x.sort)) e

stand_in_is_value : (signature : Signature) (s : Sort) → IsValue signature s (stand_in s)
stand_in_is_value signature Msg = (tt, tt)
stand_in_is_value signature Fresh = (tt, tt)
stand_in_is_value signature Pub = (tt, tt)

-- and are a valuation where the facts that are matched are over the symbols
pub own_valuation : (signature : Signature) (p : Facts Variable) (f : Facts ⊥) (bs : List Bound) → matched_instance p f ≡ Some bs
    → OfArguments (AreOver signature.symbols) f → IsValuation signature (bound_or_any bs)
own_valuation signature p f bs e over x = by_value (lookup bs x) refl
  where
    by_value : (o : Option Ground) → lookup bs x ≡ o → IsValue signature x.sort (unwrap_or o (stand_in x.sort))
    by_value None k = stand_in_is_value signature x.sort
    by_value (Some u) k = value_found (IsOver signature.symbols) (AreOver signature.symbols) (over_inherited signature.symbols) p f bs e over x u k

-- values in normal form are a valuation as the values are
pub normal_valuation : (signature : Signature) → KeepSymbols signature.symbols signature.equations → (v : Values) → IsValuation signature v
    → IsValuation signature (normals signature.equations v)
normal_valuation signature keeps v h x =
    (normal_has_sort signature.equations x.sort (v x) (h x).0, keeps.kept (v x) (h x).1)

-- ---- what is given by name

-- each variable is given the normal form of its value
pub given_gives : (es : List Equation) (v : Values) (k : ℕ) (ds : List Declared)
    → Gives k ds (given_to ds (normal_all es (valued_all v (rule_variables k ds)))) (normals es v)
given_gives es v k [] = refl
given_gives es v k (d ∷ ds) = ([], given_to ds (normal_all es (valued_all v (rule_variables (suc k) ds))), refl, given_gives es v (suc k) ds)

-- ---- the first form

-- some form of these matches, and it is the first
pub record First (es : List Equation) (rule : RuleForms) (forms : List Form) (facts : Facts ⊥) : Type 0 where
  pub form : Form
  pub member : Member form forms
  pub bindings : List Bound
  pub matched : matched_instance form.facts facts ≡ Some bindings
  pub given : given_by_first es rule forms facts ≡ Some (given_of es rule form bindings)

module _ (es : List Equation) (rule : RuleForms) (facts : Facts ⊥) where
  pub first_there : (forms : List Form) (form : Form) (bs : List Bound) → Member form forms → matched_instance form.facts facts ≡ Some bs → First es rule forms facts
  first_there [] form bs m e = absurd m
  first_there (f ∷ forms) form bs m e = by_match (matched_instance f.facts facts) refl (λ k. first_there forms form bs k e)
    where
      not_here : matched_instance f.facts facts ≡ None → Member form forms
      not_here is = ⊎_elim (λ same. let n = ap (λ (h : Form). matched_instance h.facts facts) same in absurd cc) (λ k. k) m

      skipped : matched_instance f.facts facts ≡ None → given_by_first es rule (f ∷ forms) facts ≡ given_by_first es rule forms facts
      skipped is = ap (λ o. option_or (option_map (given_of es rule f) o) (given_by_first es rule forms facts)) is

      by_match : (o : Option (List Bound)) → matched_instance f.facts facts ≡ o → (Member form forms → First es rule forms facts) → First es rule (f ∷ forms) facts
      by_match (Some cs) is later = record {
        form = f;
        member = inl refl;
        bindings = cs;
        matched = is;
        given = ap (λ o. option_or (option_map (given_of es rule f) o) (given_by_first es rule forms facts)) is;
      }
      by_match None is later =
          let g = later (not_here is) in
          record { form = g.form; member = inr g.member; bindings = g.bindings; matched = g.matched; given = skipped is ∙ g.given }

-- ---- the rule

abbrev pub names : List Rule → List (List ℕ)
names rules = map (λ (r : Rule). r.name) rules

-- a rule is the first of its name, where names are used once
pub named_there : (es : List Equation) (rules : List Rule) (rule : Rule) → Distinct (names rules) → Member rule rules
    → forms_named rule.name (map (forms_of es) rules) ≡ Some (forms_of es rule)
named_there es [] rule d m = absurd m
named_there es (q ∷ rules) rule d m = by_test (bytes_eq q.name rule.name) refl (λ k. named_there es rules rule d.1 k) m
  where
    once : q.name ≡ rule.name → Member rule rules → q ≡ rule
    once e k = absurd (d.0 (subst (λ (x : List ℕ). Member x (names rules)) (sym e) (member_map (λ (r : Rule). r.name) rule rules k)))

    by_test : (t : Bool) → bytes_eq q.name rule.name ≡ t → (Member rule rules → forms_named rule.name (map (forms_of es) rules) ≡ Some (forms_of es rule))
        → (q ≡ rule) ⊎ Member rule rules → cond t (Some (forms_of es q)) (forms_named rule.name (map (forms_of es) rules)) ≡ Some (forms_of es rule)
    by_test true s later k = ap (λ (r : Rule). Some (forms_of es r)) (⊎_elim (λ e. e) (once ((bytes_eq-Decides q.name rule.name).0 s)) k)
    by_test false s later k =
        ⊎_elim (λ e. absurd (true≢false (sym ((bytes_eq-Decides q.name rule.name).1 (ap (λ (r : Rule). r.name) e)) ∙ s))) later k

-- what an instance of one of its forms gives
pub form_gives : (es : List Equation) (rules : List Rule) (rule : Rule) (facts : Facts ⊥) → Distinct (names rules) → Member rule rules
    → (first : First es (forms_of es rule) (forms_of es rule).forms facts)
    → given_by es (map (forms_of es) rules) rule.name facts ≡ Some (given_of es (forms_of es rule) first.form first.bindings)
form_gives es rules rule facts d m first =
    ap (option_and_then (λ (r : RuleForms). given_by_first es r r.forms facts)) (named_there es rules rule d m) ∙ first.given
