-- The rules of a basic theory are over its signature's symbols.
use Rattle.std.proofs.Common.{List, map}
use Rattle.sp_spec.specs.Lists.{Every}
use Rattle.sp_spec.specs.Term.{Term, var, constant, name, app, Terms, none, more}
use Rattle.sp_spec.specs.Signature.{Signature}
use Rattle.sp_spec.specs.Rule.{OfArguments}
use Rattle.sp_spec.specs.Written.{WrittenRule, rule_of}
use Rattle.sp_spec.proofs.Lists.{every_weaken}
use Rattle.sp_law_equal.specs.Right.{IsTermOver, AreTermsOver, RulesAreOver}
use Rattle.sp_law_decide.specs.Normal.{IsConstructorTerm, AreConstructorTerms}
use Rattle.sp_law_run.proofs.Written.{rules_over}
use Rattle.sp_law_basic.specs.BasicTheory.{IsBasicRule}

module _ (signature : Signature) where
  mutual
    constructor_over : {V : Type 0} (t : Term V) → IsConstructorTerm signature t → IsTermOver signature.symbols t
    constructor_over (var x) h = tt
    constructor_over (constant c) h = tt
    constructor_over (name n) h = tt
    constructor_over (app f ts) h = (h.1, constructors_over ts h.2)

    constructors_over : {V : Type 0} (ts : Terms V) → AreConstructorTerms signature ts → AreTermsOver signature.symbols ts
    constructors_over none h = tt
    constructors_over (more t ts) h = (constructor_over t h.0, constructors_over ts h.1)

  rule_over : (r : WrittenRule) → IsBasicRule signature r → OfArguments (AreTermsOver signature.symbols) r.facts
  rule_over r h = record {
    premises = every_weaken _ _ (λ f k. constructors_over f.args k.0) r.facts.premises h.premises;
    actions = every_weaken _ _ (λ a k. k.0) r.facts.actions h.actions;
    conclusions = every_weaken _ _ (λ f k. k.0) r.facts.conclusions h.conclusions;
  }

  pub basic_rules_over : (rs : List WrittenRule) → Every (IsBasicRule signature) rs → RulesAreOver signature.symbols (map rule_of rs)
  basic_rules_over rs h = rules_over signature.symbols rs (every_weaken (IsBasicRule signature) _ rule_over rs h)
