-- The instance of a step is the one of the definition, or there is none for the least cause.
use Rattle.std.proofs.Common.{◌≡◌, ◌<◌, ℕ, zero, List, [], ◌∷◌, ◌==◌, Bool, true, false, Option, Some, None, Result, Ok, Err, if◌then◌else◌, length, refl, sym, ap, ◌∙◌, subst, arith}
use Rattle.std.proofs.lemmas.Bool.{both_ways, eqb-true, eq-eqb}
use Rattle.std.specs.Bool.{Decides}
use Rattle.sp_spec.specs.Lists.{Member}
use Rattle.sp_spec.proofs.Lists.{every_member}
use Rattle.sp_spec.specs.Term.{Msg, Fresh, Pub, Ground, Grounds, app, count, Values}
use Rattle.sp_spec.specs.Signature.{Symbol, Signature, HasPublic}
use Rattle.sp_spec.specs.Rule.{Facts, Rule, knows, Gives, rule_named}
use Rattle.sp_spec.specs.Theory.{Theory, signature_of}
use Rattle.sp_spec.specs.Execution.{Step, make_fresh, use_rule, take_out, put_in, know_public, make_own, apply_symbol, known_all, State, IsNamed, IsInstance, HasSorts, Cause, no_such_rule, no_instance, premise_absent, fresh_name_twice, wrong_sort, IsNoStep}
use Rattle.sp_law_equal.specs.Matching.{Bound, value_in}
use Rattle.sp_law_equal.specs.Right.{IsRight, AreRight}
use Rattle.sp_law_run.specs.Given.{bound_from, bound_by, AgreeWith}
use Rattle.sp_law_run.proofs.Bindings.{bound_gives, gives_bound, own_values}
use Rattle.sp_law_run.proofs.Instances.{one_rule, values_valuation, valuation_values}
use Rattle.sp_norm.specs.Over.{any_public, all_over}
use Rattle.sp_norm.proofs.Symbols.{any_public_decides, all_over_decides}
use Rattle.sp_exec.specs.Next.{Instance, are_values, of_facts, of_values, of_rule, instance_of}
use Rattle.sp_exec.specs.Replay.{rank}
use Rattle.sp_exec.proofs.Told.{named_some, named_none, is_value_decides, are_values_decides}

-- no step can be done from the state, and this is the least cause
pub record IsFault (theory : Theory) (step : Step) (state : State) (cause : Cause) : Type 0 where
  pub fails : IsNoStep cause theory step state
  pub least : (lesser : Cause) → rank lesser < rank cause → IsNoStep lesser theory step state → ⊥

-- the step has this instance, and its sorts are tested
pub record HasInstance (theory : Theory) (step : Step) (i : Instance) : Type 0 where
  pub is_named : IsNamed theory step
  pub values : Values
  pub is_instance : IsInstance theory step values i.facts
  pub sorts : i.sorted ≡ true → HasSorts (signature_of theory) step values
  pub no_sorts : i.sorted ≡ false → (v : Values) (facts : Facts ⊥) → IsInstance theory step v facts → HasSorts (signature_of theory) step v → ⊥

abbrev pub IsRightInstance : Theory → Step → Result Instance Cause → Type 0
IsRightInstance theory step (Ok i) = HasInstance theory step i
IsRightInstance theory step (Err cause) = (state : State) → IsFault theory step state cause

-- some values, where none matter
abbrev none_given : Values
none_given = value_in []

-- a step with terms of its own has the instance that the function gives it
module _ (theory : Theory) where
  abbrev signature : Signature
  signature = signature_of theory

  abbrev symbols : List Symbol
  symbols = signature.symbols

  without_values : (step : Step) (i : Instance) → IsNamed theory step → IsInstance theory step none_given i.facts →
      ((v : Values) → Decides i.sorted (HasSorts signature step v)) → HasInstance theory step i
  without_values step i named inst d = record {
    is_named = named;
    values = none_given;
    is_instance = inst;
    sorts = λ e. (d none_given).0 e;
    no_sorts = λ e v facts k s. both_ways i.sorted e ((d v).1 s);
  }

  applied : (f : List ℕ) (ts : Grounds) (b : Bool) → Decides b (HasPublic symbols f (count ts)) →
      IsRightInstance theory (apply_symbol f ts) (if b then of_facts (known_all ts) [] (knows (app f ts) ∷ []) (all_over symbols ts) else Err no_such_rule)
  applied f ts true d = without_values (apply_symbol f ts) _ (d.0 refl) refl (λ v. all_over_decides symbols ts)
  applied f ts false d = λ state. record { fails = λ n. both_ways false refl (d.1 n); least = λ c l. absurd (omega arith) }

  module _ (right : AreRight theory.rules) where
    -- the values that a rule's instance has are those that are given
    given_bound : (r : Rule) → IsRight r → (given : List (List ℕ × Ground)) (v : Values) → Gives zero r.variables given v →
        (bs : List Bound) × (bound_by r.variables given ≡ Some bs) × AgreeWith v bs
    given_bound r is_right given v g =
        let b = gives_bound zero r.variables given v is_right.distinct g in
        let l = eq-eqb (length r.variables) (length given) b.as_many in
        (b.bindings, ap (λ t. if t then bound_from zero r.variables given else None) l ∙ b.found, b.agree)

    bound_given : (r : Rule) → IsRight r → (given : List (List ℕ × Ground)) (bs : List Bound) → bound_by r.variables given ≡ Some bs →
        Gives zero r.variables given (value_in bs)
    bound_given r is_right given bs e = by_length (length r.variables == length given) (λ t. eqb-true (length r.variables) (length given) t) e
      where
        by_length : (b : Bool) → (b ≡ true → length r.variables ≡ length given) → (if b then bound_from zero r.variables given else None) ≡ Some bs →
            Gives zero r.variables given (value_in bs)
        by_length true l e = bound_gives zero r.variables given bs (value_in bs) is_right.distinct (l refl) e (own_values zero r.variables given bs e)
        by_length false l e = absurd cc

    only_named : (x : List ℕ) (given : List (List ℕ × Ground)) (state : State) → IsNamed theory (use_rule x given) → (c : Cause) → rank c < 1 →
        IsNoStep c theory (use_rule x given) state → ⊥
    only_named x given state n no_such_rule l k = k n
    only_named x given state n no_instance l k = absurd (omega arith)
    only_named x given state n premise_absent l k = absurd (omega arith)
    only_named x given state n fresh_name_twice l k = absurd (omega arith)
    only_named x given state n wrong_sort l k = absurd (omega arith)

    -- an instance of the rule of this name is one of this rule
    of_this : (x : List ℕ) (given : List (List ℕ × Ground)) (r : Rule) → Member r theory.rules → r.name ≡ x → (v : Values) (facts : Facts ⊥) →
        IsInstance theory (use_rule x given) v facts → (bs : List Bound) × (bound_by r.variables given ≡ Some bs) × AgreeWith v bs
    of_this x given r m n v facts i =
        let same : i.0 ≡ r = one_rule theory.rules i.0 r right.distinct i.1 m (i.2 ∙ sym n) in
        given_bound r (every_member IsRight theory.rules r m right.each) given v (subst (λ (q : Rule). Gives zero q.variables given v) same i.3)

    by_values : (x : List ℕ) (given : List (List ℕ × Ground)) (r : Rule) → Member r theory.rules → r.name ≡ x → (o : Option (List Bound)) → bound_by r.variables given ≡ o →
        IsRightInstance theory (use_rule x given) (of_values symbols r o)
    by_values x given r m n None e = λ state. record {
      fails = λ v facts i. let b = of_this x given r m n v facts i in let apart = sym e ∙ b.1 in absurd cc;
      least = only_named x given state (r, m, n);
    }
    by_values x given r m n (Some bs) e = record {
      is_named = (r, m, n);
      values = value_in bs;
      is_instance = (r, m, n, bound_given r (every_member IsRight theory.rules r m right.each) given bs e, refl);
      sorts = λ t. values_valuation signature bs ((are_values_decides signature bs).0 t);
      no_sorts = λ t v facts i s.
          let b = of_this x given r m n v facts i in
          let same : b.0 ≡ bs = let two = sym b.1 ∙ e in cc in
          let agree = subst (λ (cs : List Bound). AgreeWith v cs) same b.2 in
          both_ways (are_values symbols bs) t ((are_values_decides signature bs).1 (valuation_values signature bs v agree s));
    }

    by_rule : (x : List ℕ) (given : List (List ℕ × Ground)) (o : Option Rule) → rule_named x theory.rules ≡ o →
        IsRightInstance theory (use_rule x given) (of_rule symbols o given)
    by_rule x given None e = λ state. record { fails = λ k. named_none x theory.rules e k.0 k.1 k.2; least = λ c l. absurd (omega arith) }
    by_rule x given (Some r) e = let h = named_some x theory.rules r e in by_values x given r h.0 h.1 (bound_by r.variables given) refl

    -- the instance of a step is the one of the definition, or the cause is the least
    pub instance_right : (step : Step) → IsRightInstance theory step (instance_of signature theory.rules step)
    instance_right (make_fresh t) = without_values (make_fresh t) _ tt refl (λ v. is_value_decides signature Fresh t)
    instance_right (use_rule x given) = by_rule x given (rule_named x theory.rules) refl
    instance_right (take_out t) = without_values (take_out t) _ tt refl (λ v. is_value_decides signature Msg t)
    instance_right (put_in t) = without_values (put_in t) _ tt refl (λ v. is_value_decides signature Msg t)
    instance_right (know_public t) = without_values (know_public t) _ tt refl (λ v. is_value_decides signature Pub t)
    instance_right (make_own t) = without_values (make_own t) _ tt refl (λ v. is_value_decides signature Fresh t)
    instance_right (apply_symbol f ts) = applied f ts (any_public symbols f (count ts)) (any_public_decides symbols f (count ts))
