-- A step has one instance, whichever values are taken; the values that are given are a valuation where each has its sort.
use Rattle.std.proofs.Common.{◌≡◌, ℕ, zero, List, [], ◌∷◌, Bool, true, false, if◌then◌else◌, Some, unwrap_or, inl, inr, refl, sym, ap, ◌∙◌, subst, map, arith}
use Rattle.sp_spec.specs.Lists.{Member, Every, Distinct}
use Rattle.sp_spec.proofs.Lists.{every_member, member_map, map_each, every_weaken}
use Rattle.sp_spec.specs.Term.{Sort, Msg, Fresh, Pub, Variable, Term, var, constant, name, app, Terms, none, more, Ground, Grounds, Values, valued, valued_all, EachVariable, EachVariables}
use Rattle.sp_spec.specs.Same.{same_variable}
use Rattle.sp_spec.specs.Signature.{Signature, IsValue, IsValuation}
use Rattle.sp_spec.specs.Rule.{Fact, Action, Facts, Rule, fact_at, action_at, facts_at, Gives, OfArguments}
use Rattle.sp_spec.specs.Theory.{Theory}
use Rattle.sp_spec.specs.Execution.{Step, make_fresh, use_rule, take_out, put_in, know_public, make_own, apply_symbol, IsInstance}
use Rattle.sp_law_equal.specs.Matching.{Bound, lookup, value_in, any_of}
use Rattle.sp_spec.proofs.Same.{same_variable_decides, same_fields}
use Rattle.sp_law_equal.specs.Right.{IsDeclared, IsRight, AreRight}
use Rattle.sp_law_run.specs.Given.{variable_at, bound_from, AgreeWith}
use Rattle.sp_law_run.proofs.Bindings.{gives_bound, agree_declared}

-- rules of one name are one
pub one_rule : (rules : List Rule) (r q : Rule) → Distinct (map (λ (p : Rule). p.name) rules) → Member r rules → Member q rules → r.name ≡ q.name → r ≡ q
one_rule [] r q d m k e = absurd m
one_rule (p ∷ ps) r q d (inl m) (inl k) e = sym m ∙ k
one_rule (p ∷ ps) r q d (inl m) (inr k) e =
    absurd (d.0 (subst (λ (x : List ℕ). Member x (map (λ (z : Rule). z.name) ps)) (sym e ∙ ap (λ (z : Rule). z.name) (sym m)) (member_map (λ (z : Rule). z.name) q ps k)))
one_rule (p ∷ ps) r q d (inr m) (inl k) e =
    absurd (d.0 (subst (λ (x : List ℕ). Member x (map (λ (z : Rule). z.name) ps)) (e ∙ ap (λ (z : Rule). z.name) (sym k)) (member_map (λ (z : Rule). z.name) r ps m)))
one_rule (p ∷ ps) r q d (inr m) (inr k) e = one_rule ps r q d.1 m k e

-- terms have one value where the values of their variables agree
module _ (v w : Values) (P : Variable → Type 0) (agree : (x : Variable) → P x → v x ≡ w x) where
  mutual
    same_value : (t : Term Variable) → EachVariable P t → valued v t ≡ valued w t
    same_value (var x) h = agree x h
    same_value (constant c) h = refl
    same_value (name n) h = refl
    same_value (app f ts) h = ap (app f) (same_values ts h)

    same_values : (ts : Terms Variable) → EachVariables P ts → valued_all v ts ≡ valued_all w ts
    same_values none h = refl
    same_values (more t ts) h = cc (same_value t h.0, same_values ts h.1)

  abbrev made_fact : Fact Variable → Grounds → Fact ⊥
  made_fact f ts = record { symbol = f.symbol; persistent = f.persistent; args = ts }

  abbrev made_action : Action Variable → Grounds → Action ⊥
  made_action a ts = record { symbol = a.symbol; args = ts }

  same_facts : (fs : List (Fact Variable)) → Every (λ (f : Fact Variable). EachVariables P f.args) fs → map (fact_at v) fs ≡ map (fact_at w) fs
  same_facts fs h =
      map_each (fact_at v) (fact_at w) fs
      (every_weaken (λ (f : Fact Variable). EachVariables P f.args) (λ (f : Fact Variable). fact_at v f ≡ fact_at w f) (λ f k. ap (made_fact f) (same_values f.args k)) fs h)

  same_actions : (xs : List (Action Variable)) → Every (λ (a : Action Variable). EachVariables P a.args) xs → map (action_at v) xs ≡ map (action_at w) xs
  same_actions xs h =
      map_each (action_at v) (action_at w) xs
      (every_weaken (λ (a : Action Variable). EachVariables P a.args) (λ (a : Action Variable). action_at v a ≡ action_at w a) (λ a k. ap (made_action a) (same_values a.args k)) xs h)

  pub same_instance_facts : (facts : Facts Variable) → OfArguments (EachVariables P) facts → facts_at v facts ≡ facts_at w facts
  same_instance_facts facts h =
      let made : List (Fact ⊥) → List (Action ⊥) → List (Fact ⊥) → Facts ⊥ = λ p a c. record { premises = p; actions = a; conclusions = c } in
      let p = same_facts facts.premises h.premises in
      let a = same_actions facts.actions h.actions in
      let c = same_facts facts.conclusions h.conclusions in
      ap (λ x. made x (map (action_at v) facts.actions) (map (fact_at v) facts.conclusions)) p
      ∙ ap (λ x. made (map (fact_at w) facts.premises) x (map (fact_at v) facts.conclusions)) a
      ∙ ap (made (map (fact_at w) facts.premises) (map (action_at w) facts.actions)) c

-- values that agree with the bindings of a rule's variables give its facts alike
pub agree_facts : (r : Rule) → IsRight r → (given : List (List ℕ × Ground)) (bs : List Bound) (v w : Values) → bound_from zero r.variables given ≡ Some bs →
    AgreeWith v bs → AgreeWith w bs → facts_at v r.facts ≡ facts_at w r.facts
agree_facts r right given bs v w e a b = same_instance_facts v w (IsDeclared r.variables) agree r.facts right.declared
  where
    agree : (x : Variable) → IsDeclared r.variables x → v x ≡ w x
    agree x h =
        let d = h.0 in
        let at : v (variable_at x.number d) ≡ w (variable_at x.number d) =
        agree_declared zero r.variables given bs v w e a b x.number x.number d h.1 (omega arith) in
        subst (λ (y : Variable). v y ≡ w y) (same_fields (variable_at x.number d) x h.2 refl) at

pub given_agree : (r : Rule) → IsRight r → (given : List (List ℕ × Ground)) (v w : Values) → Gives zero r.variables given v → Gives zero r.variables given w →
    facts_at v r.facts ≡ facts_at w r.facts
given_agree r right given v w a b =
    let one = gives_bound zero r.variables given v right.distinct a in
    let other = gives_bound zero r.variables given w right.distinct b in
    let same : other.bindings ≡ one.bindings = let e = sym other.found ∙ one.found in cc in
    agree_facts r right given one.bindings v w one.found one.agree (subst (λ (bs : List Bound). AgreeWith w bs) same other.agree)

-- a step has one instance
pub one_instance : (theory : Theory) → AreRight theory.rules → (step : Step) (v w : Values) (f g : Facts ⊥) → IsInstance theory step v f → IsInstance theory step w g → f ≡ g
one_instance theory right (use_rule rule_name given) v w f g a b =
    let r = a.0 in
    let q = b.0 in
    let same : q ≡ r = one_rule theory.rules q r right.distinct b.1 a.1 (b.2 ∙ sym a.2) in
    let gives = subst (λ (p : Rule). Gives zero p.variables given w) same b.3 in
    let facts : g ≡ facts_at w r.facts = subst (λ (p : Rule). g ≡ facts_at w p.facts) same b.4 in
    a.4 ∙ given_agree r (every_member IsRight theory.rules r a.1 right.each) given v w a.3 gives ∙ sym facts
one_instance theory right (make_fresh t) v w f g a b = a ∙ sym b
one_instance theory right (take_out t) v w f g a b = a ∙ sym b
one_instance theory right (put_in t) v w f g a b = a ∙ sym b
one_instance theory right (know_public t) v w f g a b = a ∙ sym b
one_instance theory right (make_own t) v w f g a b = a ∙ sym b
one_instance theory right (apply_symbol h ts) v w f g a b = a ∙ sym b

-- each value that is given has its variable's sort, over the symbols
abbrev pub AreValues : Signature → List Bound → Type 0
AreValues signature bs = Every (λ (b : Bound). IsValue signature b.0.sort b.1) bs

pub any_is_value : (signature : Signature) (s : Sort) → IsValue signature s (any_of s)
any_is_value signature Msg = (tt, tt)
any_is_value signature Fresh = (tt, tt)
any_is_value signature Pub = (tt, tt)

-- then the bindings' values are a valuation
pub values_valuation : (signature : Signature) (bs : List Bound) → AreValues signature bs → IsValuation signature (value_in bs)
values_valuation signature [] h x = any_is_value signature x.sort
values_valuation signature (b ∷ bs) h x = by_test (same_variable b.0 x) (λ e. (same_variable_decides b.0 x).0 e) (values_valuation signature bs h.1 x)
  where
    by_test : (t : Bool) → (t ≡ true → b.0 ≡ x) → IsValue signature x.sort (value_in bs x) →
        IsValue signature x.sort (unwrap_or (if t then Some b.1 else lookup bs x) (any_of x.sort))
    by_test true e k = subst (λ (y : Variable). IsValue signature y.sort b.1) (e refl) h.0
    by_test false e k = k

-- and a valuation gives each variable such a value
pub valuation_values : (signature : Signature) (bs : List Bound) (v : Values) → AgreeWith v bs → IsValuation signature v → AreValues signature bs
valuation_values signature bs v a h =
    every_weaken (λ (b : Bound). v b.0 ≡ b.1) (λ (b : Bound). IsValue signature b.0.sort b.1)
    (λ b e. subst (λ (t : Ground). IsValue signature b.0.sort t) e (h b.0)) bs a
