-- Of the forms of a theory's rules: the normal form of each instance of a rule is an instance of one of its forms, and they are made of the names of
-- the rules.
use Rattle.std.proofs.Common.{◌≡◌, ◌<◌, inl, inr, ℕ, suc, length, List, [], ◌∷◌, map, Option, Some, None, refl, subst}
use Rattle.sp_spec.specs.Lists.{Member, Every}
use Rattle.sp_spec.specs.Term.{Names, any_names, Variable, Term, var, constant, name, app, Terms, none, more, valued_all, MadeOf, AllMadeOf}
use Rattle.sp_spec.specs.Signature.{Equation}
use Rattle.sp_spec.specs.Substitution.{Binding, bound_to}
use Rattle.sp_spec.specs.Unifier.{mgu}
use Rattle.sp_spec.specs.Rule.{Fact, Action, Facts, Declared, Rule, facts_at, FactsMadeOf}
use Rattle.sp_spec.specs.Theory.{Theory, signature_of}
use Rattle.sp_spec.proofs.Lists.{every_from, every_map, every_member, every_both}
use Rattle.sp_law_equal.specs.Right.{no_names, HaveNoNames}
use Rattle.sp_law_equal.specs.NormalForms.{HasNormalForms}
use Rattle.sp_law_equal.specs.RightTheory.{HasNormalInstances}
use Rattle.sp_law_system.specs.Rules.{RulesAreNumbered, IsNumberedForm, FormsAreNumbered, FormsAreWhole}
use Rattle.sp_law_equal.proofs.Made.{each_valued, each_valued_all, facts_valued, facts_weaken, all_made_both}
use Rattle.sp_law_system.proofs.Unifying.{mgu_within}
use Rattle.sp_spec_forms.specs.Narrowing.{Chosen, narrow_facts}
use Rattle.sp_spec_forms.specs.Forms.{RuleForms, rule_variables, form_by, results, forms, forms_of}
use Rattle.sp_spec_forms.specs.Numbering.{Form, seen, renumbered}
use Rattle.sp_law_forms.specs.Laws.{IsRuleOver}
use Rattle.sp_law_forms.proofs.Shifted.{shift}
use Rattle.sp_law_forms.proofs.Kept.{IsKept, stays_facts}
use Rattle.sp_law_forms.proofs.Lists.{member_flat_mapped}
use Rattle.sp_law_forms.proofs.Proper.{begin, variables_of, form_result, form_below}
use Rattle.sp_law_forms.proofs.Completeness.{complete_law}

pub forms_whole : (theory : Theory) → HasNormalInstances theory → FormsAreWhole theory
forms_whole theory h = record {
  each = λ r m v given.
      let over = every_member (IsRuleOver (signature_of theory)) theory.rules r m h.over.each in
      let c = complete_law.each (signature_of theory) r h.forms over v given in
      (c.0, c.1, c.2, c.3.0, c.3.1, c.4);
}

abbrev pub any_variable : Variable → Type 0
any_variable x = Unit {0}

-- what is made of no names is made of any
module _ (N : Names) where
  mutual
    pub without_names : (t : Term Variable) → MadeOf no_names any_variable t → MadeOf N any_variable t
    without_names (var x) h = tt
    without_names (constant c) h = absurd h
    without_names (name n) h = absurd h
    without_names (app f ts) h = all_without_names ts h

    all_without_names : (ts : Terms Variable) → AllMadeOf no_names any_variable ts → AllMadeOf N any_variable ts
    all_without_names none h = tt
    all_without_names (more t ts) h = (without_names t h.0, all_without_names ts h.1)

-- what holds of the names, and of the variables
module _ (N : Names) (P : Variable → Type 0) where
  facts_made_both : (f : Facts Variable) → FactsMadeOf N any_variable f → FactsMadeOf any_names P f → FactsMadeOf N P f
  facts_made_both f h k = record {
    premises = every_both _ _ _ (λ (g : Fact Variable) a b. all_made_both N any_names P g.args a b) f.premises h.premises k.premises;
    actions = every_both _ _ _ (λ (g : Action Variable) a b. all_made_both N any_names P g.args a b) f.actions h.actions k.actions;
    conclusions = every_both _ _ _ (λ (g : Fact Variable) a b. all_made_both N any_names P g.args a b) f.conclusions h.conclusions k.conclusions;
  }

module _ (N : Names) (es : List Equation) (nameless : HaveNoNames es) where
  abbrev Made : Term Variable → Type 0
  Made = MadeOf N any_variable

  abbrev AllMade : Terms Variable → Type 0
  AllMade = AllMadeOf N any_variable

  abbrev AllMadeBeside : Terms Variable → Terms Variable → Type 0
  AllMadeBeside ts us = AllMade us

  names_kept : IsKept es Made AllMade AllMadeBeside
  names_kept = record {
    arguments = λ f ts h. h;
    first = λ t ts h. h.0;
    rest = λ t ts h. h.1;
    end = tt;
    beside = λ t u ts us o k. (o, k);
    under = λ f ts us h o. o;
    fitting = λ ts us o. o;
    left = λ e m n. each_valued N any_variable any_variable (λ x. var (shift n x)) (λ x h. tt) e.left (without_names N e.left (nameless.left e m));
    right = λ e m n. each_valued N any_variable any_variable (λ x. var (shift n x)) (λ x h. tt) e.right (without_names N e.right (nameless.right e m));
  }

  -- the rule's variables are made of no names
  variables_made : (k : ℕ) (xs : List Declared) → AllMade (rule_variables k xs)
  variables_made k [] = tt
  variables_made k (x ∷ xs) = (tt, variables_made (suc k) xs)

  module _ (rule : Rule) (made : FactsMadeOf N any_variable rule.facts) (form : Form) where
    -- the facts and the kept terms are
    abbrev FormMade : Form → Type 0
    FormMade f = FactsMadeOf N any_variable f.facts × AllMade f.kept

    by_answer : (g : Facts Variable) (s : Chosen) → Member {A = Facts Variable × Chosen} (g, s) (narrow_facts es rule.facts (begin rule))
        → (o : Option (List Binding)) → mgu s.pairs ≡ o → Member form (form_by (variables_of rule) g o) → FormMade form
    by_answer g s among None is m = absurd m
    by_answer g s among (Some bs) is (inr m) = absurd m
    by_answer g s among (Some bs) is (inl m) =
        let kept = stays_facts Made es AllMade AllMadeBeside names_kept rule.facts made (begin rule) (g, s) among tt in
        let within = mgu_within N any_variable s.pairs bs kept.0 is in
        let old = seen (facts_at (bound_to bs) g) (valued_all (bound_to bs) (variables_of rule)) in
        subst FormMade m (
          facts_valued N any_variable any_variable (renumbered old) (λ x h. tt) (facts_at (bound_to bs) g)
              (facts_valued N any_variable any_variable (bound_to bs) within g kept.1),
          each_valued_all N any_variable any_variable (renumbered old) (λ x h. tt) (valued_all (bound_to bs) (variables_of rule))
              (each_valued_all N any_variable any_variable (bound_to bs) within (variables_of rule) (variables_made 0 rule.variables)),
        )

    form_made : Member form (results es rule) → FormMade form
    form_made m =
        let c = member_flat_mapped (λ (r : Facts Variable × Chosen). form_by (variables_of rule) r.0 (mgu r.1.pairs)) form (narrow_facts es rule.facts (begin rule)) m in
        by_answer c.0.0 c.0.1 c.1 (mgu c.0.1.pairs) refl c.2

    form_is_numbered : Member form (forms es rule) → IsNumberedForm N form
    form_is_numbered m =
        facts_made_both N (λ x. x.number < form.count) form.facts (form_made (form_result es rule form m)).0 (form_below es rule form m).0

    -- the kept terms are made of the rule's names
    pub kept_made : Member form (forms es rule) → AllMade form.kept
    kept_made m = (form_made (form_result es rule form m)).1

  forms_made : (rule : Rule) → FactsMadeOf N (λ x. x.number < length rule.variables) rule.facts → Every (IsNumberedForm N) (forms es rule)
  forms_made rule h =
      every_from (IsNumberedForm N) (forms es rule)
      (form_is_numbered rule (facts_weaken N (λ x. x.number < length rule.variables) any_variable (λ x k. tt) rule.facts h))

pub forms_numbered : (N : Names) (theory : Theory) → HasNormalForms (signature_of theory) → RulesAreNumbered N theory.rules
    → FormsAreNumbered N (map (forms_of (signature_of theory).equations) theory.rules)
forms_numbered N theory good h =
    every_map (λ (r : Rule). FactsMadeOf N (λ x. x.number < length r.variables) r.facts) (λ (r : RuleForms). Every (IsNumberedForm N) r.forms)
    (forms_of (signature_of theory).equations) (forms_made N (signature_of theory).equations good.nameless) theory.rules h
