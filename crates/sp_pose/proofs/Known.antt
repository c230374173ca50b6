-- The rules of a text without findings are over its symbols, whether or not destructors stand in them.
use Rattle.std.proofs.Common.{◌≡◌, ℕ, List, [], ◌∷◌, ◌++◌, not}
use Rattle.std.proofs.lemmas.Bool.{not-false}
use Rattle.sp_spec.specs.Lists.{Every}
use Rattle.sp_spec.specs.Term.{Term, var, constant, name, app, Terms, none, more, count}
use Rattle.sp_spec.specs.Signature.{Symbol, Equation}
use Rattle.sp_spec.specs.Rule.{Fact, Action, OfArguments}
use Rattle.sp_spec.specs.Formula.{Written}
use Rattle.sp_spec.specs.Theory.{signature_of}
use Rattle.sp_spec.specs.Written.{WrittenRule, theory_of}
use Rattle.sp_spec.proofs.Lists.{every_weaken}
use Rattle.sp_spec_text.specs.Written.{WrittenText}
use Rattle.sp_spec_text.specs.Declared.{theory_in}
use Rattle.sp_law_equal.specs.Right.{IsTermOver, AreTermsOver, RulesAreOver}
use Rattle.sp_law_run.proofs.Written.{rules_over}
use Rattle.sp_finding.specs.Finding.{unknown_symbol}
use Rattle.sp_finding.specs.TermFindings.{has_symbol, unknown_in, unknown_in_all}
use Rattle.sp_wf_rules.specs.RuleFindings.{unknown_in_facts, unknown_in_actions}
use Rattle.sp_wf.specs.Laws.{IsFineRule}
use Rattle.sp_wf_symbols.proofs.UnknownClean.{has_tells}
use Rattle.sp_pose.specs.Problem.{Poses}
use Rattle.sp_pose.proofs.Constructors.{none_left, not_told}

module _ (symbols : List Symbol) where
  mutual
    term_over : (t : Term Written) → unknown_in symbols t ≡ [] → IsTermOver symbols t
    term_over (var x) e = tt
    term_over (constant c) e = tt
    term_over (name n) e = tt
    term_over (app f ts) e =
        let known = not_told (not (has_symbol symbols f (count ts))) (unknown_symbol f (count ts)) (unknown_in_all symbols ts) e in
        (has_tells symbols f (count ts) (not-false (has_symbol symbols f (count ts)) known.0), terms_over ts known.1)

    terms_over : (ts : Terms Written) → unknown_in_all symbols ts ≡ [] → AreTermsOver symbols ts
    terms_over none e = tt
    terms_over (more t ts) e = let known = none_left (unknown_in symbols t) (unknown_in_all symbols ts) e in (term_over t known.0, terms_over ts known.1)

  pub facts_over : (fs : List (Fact Written)) → unknown_in_facts symbols fs ≡ [] → Every (λ (f : Fact Written). AreTermsOver symbols f.args) fs
  facts_over [] e = tt
  facts_over (f ∷ fs) e = let known = none_left (unknown_in_all symbols f.args) (unknown_in_facts symbols fs) e in (terms_over f.args known.0, facts_over fs known.1)

  pub actions_over : (as' : List (Action Written)) → unknown_in_actions symbols as' ≡ [] → Every (λ (a : Action Written). AreTermsOver symbols a.args) as'
  actions_over [] e = tt
  actions_over (a ∷ as') e = let known = none_left (unknown_in_all symbols a.args) (unknown_in_actions symbols as') e in (terms_over a.args known.0, actions_over as' known.1)

  rule_over : (es : List Equation) (r : WrittenRule) → IsFineRule symbols es r → OfArguments (AreTermsOver symbols) r.facts
  rule_over es r fine =
      let known = none_left (unknown_in_facts symbols r.facts.premises) (unknown_in_actions symbols r.facts.actions ++ unknown_in_facts symbols r.facts.conclusions) fine.known in
      let behind = none_left (unknown_in_actions symbols r.facts.actions) (unknown_in_facts symbols r.facts.conclusions) known.1 in
      record {
        premises = facts_over r.facts.premises known.0;
        actions = actions_over r.facts.actions behind.0;
        conclusions = facts_over r.facts.conclusions behind.1;
      }

pub rules_are_over : {text : List ℕ} {t : WrittenText} → Poses text t → RulesAreOver (signature_of (theory_of (theory_in t))).symbols (theory_of (theory_in t)).rules
rules_are_over {t = t} p =
    let s = signature_of (theory_of (theory_in t)) in
    rules_over s.symbols (theory_in t).rules (every_weaken (IsFineRule s.symbols s.equations) _ (rule_over s.symbols s.equations) (theory_in t).rules p.fine.rules)
