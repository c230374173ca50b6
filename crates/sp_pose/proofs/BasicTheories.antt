-- The rules, the restrictions and the lemmas of a text without findings are basic over its signature, and its equations have normal forms.
use Rattle.std.proofs.Common.{◌≡◌, ℕ, false, List, [], ◌∷◌, ◌++◌}
use Rattle.std.proofs.lemmas.Bool.{or_parts}
use Rattle.sp_spec.specs.Lists.{Every}
use Rattle.sp_spec.proofs.Lists.{every_both, every_weaken}
use Rattle.sp_spec.specs.Signature.{Signature}
use Rattle.sp_spec.specs.Rule.{Fact}
use Rattle.sp_spec.specs.Formula.{Written, Formula, truth, falsity, happens, equals, precedes, not_so, both, either, implies, for_all, for_some}
use Rattle.sp_spec.specs.Theory.{Restriction, Lemma, signature_of}
use Rattle.sp_spec.specs.Written.{WrittenRule, theory_of}
use Rattle.sp_spec_text.specs.Written.{WrittenText}
use Rattle.sp_spec_text.specs.Declared.{theory_in}
use Rattle.sp_law_equal.specs.NormalForms.{HasNormalForms}
use Rattle.sp_law_conv.specs.Accepted.{AreAccepted}
use Rattle.sp_law_equal.specs.Right.{EquationsAreOver, KeepPublic}
use Rattle.sp_law_equal.specs.RightTheory.{IsRightTheory}
use Rattle.sp_law_conv.specs.Laws.{HaveOneArity}
use Rattle.sp_law_conv.proofs.Convergent.{convergence_law}
use Rattle.sp_law_basic.specs.BasicTheory.{AreBasicTerms, IsBasicRule, IsBasicFormula}
use Rattle.sp_law_basic.specs.Restrictions.{IsBasicRestriction}
use Rattle.sp_law_basic.proofs.RightTexts.{texts_are_right_lem}
use Rattle.sp_finding.specs.TermFindings.{unknown_in, unknown_in_all, has_destructor, have_destructor}
use Rattle.sp_wf_rules.specs.RuleFindings.{unknown_in_facts, unknown_in_actions, facts_have_destructor}
use Rattle.sp_wf_formulas.specs.FormulaFindings.{unknown_in_formula, formula_has_destructor}
use Rattle.sp_wf.specs.Laws.{IsFineRule, IsFineLemma, IsFineRestriction}
use Rattle.sp_pose.specs.Problem.{Poses}
use Rattle.sp_pose.proofs.Known.{facts_over, actions_over}
use Rattle.sp_pose.proofs.OneArity.{have_one_arity}
use Rattle.sp_pose.proofs.Constructors.{none_left, constructor_term, constructor_terms}
use Rattle.sp_pose.proofs.Theories.{IsSpelledFact, IsSpelledAction, IsSpelledRule, IsSpelledFormula, theory_spelled}

module _ (s : Signature) (one : HaveOneArity s.symbols) (over : EquationsAreOver s.symbols s.equations) (good : AreAccepted s.symbols s.equations) where
  facts_basic : (fs : List (Fact Written)) → Every IsSpelledFact fs → unknown_in_facts s.symbols fs ≡ [] → facts_have_destructor s.equations fs ≡ false → Every (λ (f : Fact Written). AreBasicTerms s f.args) fs
  facts_basic [] h e d = tt
  facts_basic (f ∷ fs) h e d =
      let known = none_left (unknown_in_all s.symbols f.args) (unknown_in_facts s.symbols fs) e in
      let plain = or_parts (have_destructor s.equations f.args) (facts_have_destructor s.equations fs) d in
      ((constructor_terms s one over good f.args known.0 plain.0, h.0), facts_basic fs h.1 known.1 plain.1)

  rule_basic : (r : WrittenRule) → IsSpelledRule r → IsFineRule s.symbols s.equations r → IsBasicRule s r
  rule_basic r h fine =
      let known = none_left (unknown_in_facts s.symbols r.facts.premises) (unknown_in_actions s.symbols r.facts.actions ++ unknown_in_facts s.symbols r.facts.conclusions) fine.known in
      let behind = none_left (unknown_in_actions s.symbols r.facts.actions) (unknown_in_facts s.symbols r.facts.conclusions) known.1 in
      record {
        premises = facts_basic r.facts.premises h.premises known.0 fine.plain;
        actions = every_both IsSpelledAction _ _ (λ a k o. (o, k)) r.facts.actions h.actions (actions_over s.symbols r.facts.actions behind.0);
        conclusions = every_both IsSpelledFact _ _ (λ f k o. (o, k)) r.facts.conclusions h.conclusions (facts_over s.symbols r.facts.conclusions behind.1);
      }

  rules_basic : (rs : List WrittenRule) → Every IsSpelledRule rs → Every (IsFineRule s.symbols s.equations) rs → Every (IsBasicRule s) rs
  rules_basic [] h fine = tt
  rules_basic (r ∷ rs) h fine = (rule_basic r h.0 fine.0, rules_basic rs h.1 fine.1)

  formula_basic : (f : Formula) → IsSpelledFormula f → unknown_in_formula s.symbols f ≡ [] → formula_has_destructor s.equations f ≡ false → IsBasicFormula s f
  formula_basic truth h e d = tt
  formula_basic falsity h e d = tt
  formula_basic (happens a i) h e d = (constructor_terms s one over good a.args e d, h)
  formula_basic (equals t u) h e d =
      let known = none_left (unknown_in s.symbols t) (unknown_in s.symbols u) e in
      let plain = or_parts (has_destructor s.equations t) (has_destructor s.equations u) d in
      ((constructor_term s one over good t known.0 plain.0, h.0), (constructor_term s one over good u known.1 plain.1, h.1))
  formula_basic (precedes i j) h e d = tt
  formula_basic (not_so f) h e d = formula_basic f h e d
  formula_basic (both f g) h e d =
      let known = none_left (unknown_in_formula s.symbols f) (unknown_in_formula s.symbols g) e in
      let plain = or_parts (formula_has_destructor s.equations f) (formula_has_destructor s.equations g) d in
      (formula_basic f h.0 known.0 plain.0, formula_basic g h.1 known.1 plain.1)
  formula_basic (either f g) h e d =
      let known = none_left (unknown_in_formula s.symbols f) (unknown_in_formula s.symbols g) e in
      let plain = or_parts (formula_has_destructor s.equations f) (formula_has_destructor s.equations g) d in
      (formula_basic f h.0 known.0 plain.0, formula_basic g h.1 known.1 plain.1)
  formula_basic (implies f g) h e d =
      let known = none_left (unknown_in_formula s.symbols f) (unknown_in_formula s.symbols g) e in
      let plain = or_parts (formula_has_destructor s.equations f) (formula_has_destructor s.equations g) d in
      (formula_basic f h.0 known.0 plain.0, formula_basic g h.1 known.1 plain.1)
  formula_basic (for_all x f) h e d = formula_basic f h e d
  formula_basic (for_some x f) h e d = formula_basic f h e d

  lemmas_basic : (ls : List Lemma) → Every (λ (l : Lemma). IsSpelledFormula l.formula) ls → Every (IsFineLemma s.symbols s.equations) ls → Every (λ (l : Lemma). IsBasicFormula s l.formula) ls
  lemmas_basic [] h fine = tt
  lemmas_basic (l ∷ ls) h fine = (formula_basic l.formula h.0 fine.0.known fine.0.plain, lemmas_basic ls h.1 fine.1)

  restrictions_basic : (rs : List Restriction) → Every (λ (r : Restriction). IsSpelledFormula r.formula) rs → Every (IsFineRestriction s.symbols s.equations) rs → Every (IsBasicRestriction s) rs
  restrictions_basic [] h fine = tt
  restrictions_basic (r ∷ rs) h fine = (
    record { basic = formula_basic r.formula h.0 fine.0.fine.known fine.0.fine.plain; form = fine.0.fine.form.0; form_is = fine.0.fine.form.1; unlearnt = fine.0.silent },
    restrictions_basic rs h.1 fine.1,
  )

abbrev signature_in : WrittenText → Signature
signature_in t = signature_of (theory_of (theory_in t))

pub normal_forms : {text : List ℕ} {t : WrittenText} → Poses text t → HasNormalForms (signature_of (theory_of (theory_in t)))
normal_forms {t = t} p =
    let s = signature_in t in
    record { normal_forms = convergence_law.normal_forms s.symbols s.equations (have_one_arity t.items) p.fine.over p.fine.accepted; keeps = convergence_law.keep s.symbols s.equations p.fine.accepted; over = p.fine.over; nameless = convergence_law.no_names s.symbols s.equations p.fine.accepted }

pub lemmas_are_basic : {text : List ℕ} {t : WrittenText} → Poses text t → Every (λ (l : Lemma). IsBasicFormula (signature_of (theory_of (theory_in t))) l.formula) (theory_in t).lemmas
lemmas_are_basic {t = t} p = lemmas_basic (signature_in t) (have_one_arity t.items) p.fine.over p.fine.accepted (theory_in t).lemmas (theory_spelled p.says.spells).lemmas_are p.fine.lemmas

-- each restriction has a guarded form too, and doesn't speak of learning
pub restrictions_are_basic : {text : List ℕ} {t : WrittenText} → Poses text t → Every (IsBasicRestriction (signature_of (theory_of (theory_in t)))) (theory_in t).restrictions
restrictions_are_basic {t = t} p =
    restrictions_basic (signature_in t) (have_one_arity t.items) p.fine.over p.fine.accepted (theory_in t).restrictions (theory_spelled p.says.spells).restrictions_are p.fine.restrictions

-- destructors may stand in actions and conclusions
pub rules_are_basic : {text : List ℕ} {t : WrittenText} → Poses text t → Every (IsBasicRule (signature_of (theory_of (theory_in t)))) (theory_in t).rules
rules_are_basic {t = t} p =
    rules_basic (signature_in t) (have_one_arity t.items) p.fine.over p.fine.accepted (theory_in t).rules (theory_spelled p.says.spells).rules_are p.fine.rules

pub keeps_public : {text : List ℕ} {t : WrittenText} → Poses text t → KeepPublic (signature_in t).symbols (signature_in t).equations
keeps_public {t = t} p = convergence_law.public (signature_in t).symbols (signature_in t).equations p.fine.accepted

-- a text without findings has a right theory
pub posed_is_right : {text : List ℕ} {t : WrittenText} → Poses text t → IsRightTheory (theory_of (theory_in t))
posed_is_right {t = t} p =
    texts_are_right_lem.right (theory_in t) (normal_forms p) (keeps_public p) (rules_are_basic p)
    (every_weaken (IsFineRule (signature_in t).symbols (signature_in t).equations) _ (λ r h. h.right) (theory_in t).rules p.fine.rules) p.fine.rule_names
