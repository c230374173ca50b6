-- No destructor stands in a premise of a rule for which a written rule of a basic theory stands.
use Rattle.std.proofs.Common.{List, map}
use Rattle.sp_spec.specs.Lists.{Every}
use Rattle.sp_spec.specs.Term.{Variable, Term, var, constant, name, app, Terms, none, more, valued, valued_all}
use Rattle.sp_spec.specs.Signature.{Signature}
use Rattle.sp_spec.specs.Rule.{fact_at}
use Rattle.sp_spec.specs.Formula.{Written}
use Rattle.sp_spec.specs.Written.{WrittenRule, numbered_in, rule_of}
use Rattle.sp_spec.proofs.Lists.{every_map}
use Rattle.sp_law_equal.specs.Destructors.{IsPlain, ArePlain}
use Rattle.sp_law_equal.specs.RightTheory.{HasPlainPremises}
use Rattle.sp_law_decide.specs.Normal.{IsConstructorTerm, AreConstructorTerms}
use Rattle.sp_law_basic.specs.BasicTheory.{IsBasicRule}

module _ (signature : Signature) where
  module _ (v : Written → Term Variable) (v_plain : (x : Written) → IsPlain signature.equations (v x)) where
    mutual
      constructor_plain : (t : Term Written) → IsConstructorTerm signature t → IsPlain signature.equations (valued v t)
      constructor_plain (var x) h = v_plain x
      constructor_plain (constant c) h = tt
      constructor_plain (name n) h = tt
      constructor_plain (app f ts) h = (h.0, constructors_plain ts h.2)

      constructors_plain : (ts : Terms Written) → AreConstructorTerms signature ts → ArePlain signature.equations (valued_all v ts)
      constructors_plain none h = tt
      constructors_plain (more t ts) h = (constructor_plain t h.0, constructors_plain ts h.1)

  rule_plain : (r : WrittenRule) → IsBasicRule signature r → HasPlainPremises signature.equations (rule_of r)
  rule_plain r h =
      let v = numbered_in r.facts in
      every_map _ _ (fact_at v) (λ f k. constructors_plain v (λ x. tt) f.args k.0) r.facts.premises h.premises

  pub premises_plain : (rs : List WrittenRule) → Every (IsBasicRule signature) rs → Every (HasPlainPremises signature.equations) (map rule_of rs)
  premises_plain rs h = every_map (IsBasicRule signature) (HasPlainPremises signature.equations) rule_of rule_plain rs h
