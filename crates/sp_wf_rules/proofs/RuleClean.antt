-- No finding stands on a rule exactly where nothing is wrong with it.
use Rattle.std.proofs.Common.{◌≡◌, ℕ, Bool, true, false, not, ◌&&◌, ◌||◌, List, [], ◌∷◌, ◌++◌, refl, sym, ap, ◌∙◌}
use Rattle.sp_spec.specs.Term.{Sort}
use Rattle.sp_spec.specs.Rule.{Fact, Action, Facts}
use Rattle.sp_spec.specs.Formula.{Written}
use Rattle.sp_spec.proofs.Lists.{every_parts}
use Rattle.sp_spec.specs.Written.{WrittenRule, in_facts, in_actions}
use Rattle.sp_spec.specs.Findings.{is_wide, has_wide_fact, has_wide_action, is_fr_named, is_one, is_fresh_variable, is_no_action, is_wrong_premise, is_wrong_conclusion, has_wrong_premise, has_wrong_action, has_wrong_conclusion, has_wrong_argument, is_pub, is_named, has_unbound, rule_is_wrong}
use Rattle.sp_finding.specs.Finding.{arity_above, reserved, fr_argument, in_no_premise, are_none}
use Rattle.sp_wf_rules.specs.RuleFindings.{wide_facts, wide_actions, wide_in_rule, first_sort, sorts_in_rule, wrong_premises, wrong_actions, wrong_conclusions, reserved_in_rule, wrong_arguments, arguments_in_rule, unbound, unbound_in_rule}
use Rattle.sp_spec.proofs.Findings.{fr_premise}
use Rattle.sp_finding.proofs.Nothing.{both_false, told_step, none_parts, none_both}
use Rattle.std.proofs.lemmas.Bool.{or_parts, not_from_false, not-true}
use Rattle.sp_wf_rules.proofs.RuleSorts.{made_fresh, HasOneSort, OneSort, one_sort_given, no_other_mark, one_sort_first, no_two}

none_wide : (fs : List (Fact Written)) → are_none (wide_facts fs) ≡ not (has_wide_fact fs)
none_wide [] = refl
none_wide (f ∷ fs) = told_step (is_wide f.args) (arity_above f.symbol) (wide_facts fs) (has_wide_fact fs) (none_wide fs)

none_wide_action : (acts : List (Action Written)) → are_none (wide_actions acts) ≡ not (has_wide_action acts)
none_wide_action [] = refl
none_wide_action (a ∷ rest) = told_step (is_wide a.args) (arity_above a.symbol) (wide_actions rest) (has_wide_action rest) (none_wide_action rest)

none_premise : (r : List ℕ) (fs : List (Fact Written)) → are_none (wrong_premises r fs) ≡ not (has_wrong_premise fs)
none_premise r [] = refl
none_premise r (f ∷ fs) = told_step (is_wrong_premise f) (reserved r f.symbol) (wrong_premises r fs) (has_wrong_premise fs) (none_premise r fs)

none_action : (r : List ℕ) (acts : List (Action Written)) → are_none (wrong_actions r acts) ≡ not (has_wrong_action acts)
none_action r [] = refl
none_action r (a ∷ rest) = told_step (is_no_action a.symbol) (reserved r a.symbol) (wrong_actions r rest) (has_wrong_action rest) (none_action r rest)

none_conclusion : (r : List ℕ) (fs : List (Fact Written)) → are_none (wrong_conclusions r fs) ≡ not (has_wrong_conclusion fs)
none_conclusion r [] = refl
none_conclusion r (f ∷ fs) = told_step (is_wrong_conclusion f) (reserved r f.symbol) (wrong_conclusions r fs) (has_wrong_conclusion fs) (none_conclusion r fs)

one_argument : (fr persistent one may : Bool) → (fr && (persistent || not one)) ≡ false → (fr && (not persistent && (one && not may))) ≡ ((fr && one) && not may)
one_argument false persistent one may e = refl
one_argument true true one may e = absurd cc
one_argument true false one may e = refl

none_argument : (r : List ℕ) (fs : List (Fact Written)) → has_wrong_premise fs ≡ false → are_none (wrong_arguments r fs) ≡ not (has_wrong_argument fs)
none_argument r [] e = refl
none_argument r (f ∷ fs) e =
    let k = or_parts _ _ e in
    told_step (is_fr_named f && (not f.persistent && (is_one f.args && not (is_fresh_variable f.args)))) (fr_argument r) (wrong_arguments r fs) (has_wrong_argument fs) (none_argument r fs k.1)
    ∙ ap (λ (b : Bool). not (b || has_wrong_argument fs)) (one_argument (is_fr_named f) f.persistent (is_one f.args) (is_fresh_variable f.args) (fr_premise f k.0))

none_unbound : (r : List ℕ) (facts : Facts Written) (xs : List Written) → OneSort facts xs → are_none (unbound r facts xs) ≡ not (has_unbound facts xs)
none_unbound r facts [] h = refl
none_unbound r facts (x ∷ xs) h =
    told_step (not (is_pub (first_sort facts x.name)) && not (is_named x.name (in_facts facts.premises))) (in_no_premise r x.name) (unbound r facts xs) (has_unbound facts xs) (none_unbound r facts xs h.1)
    ∙ ap (λ (s : Sort). not ((not (is_pub s) && not (is_named x.name (in_facts facts.premises))) || has_unbound facts xs)) h.0

pub record RuleClean (r : WrittenRule) : Type 0 where
  pub wide : are_none (wide_in_rule r) ≡ true
  pub sorts : are_none (sorts_in_rule r) ≡ true
  pub reserved : are_none (reserved_in_rule r) ≡ true
  pub arguments : are_none (arguments_in_rule r) ≡ true
  pub unbound : are_none (unbound_in_rule r) ≡ true

none_false : {a b : Bool} → a ≡ not b → a ≡ true → b ≡ false
none_false {b = b} e k = not-true b (sym e ∙ k)

false_none : {a b : Bool} → a ≡ not b → b ≡ false → a ≡ true
false_none {b = b} e k = e ∙ not_from_false b k

pub clean_is_right : (r : WrittenRule) → RuleClean r → rule_is_wrong r ≡ false
clean_is_right r c =
    let facts = r.facts in
    let w = none_parts (wide_facts facts.premises) (wide_actions facts.actions ++ wide_facts facts.conclusions) c.wide in
    let v = none_parts (wide_actions facts.actions) (wide_facts facts.conclusions) w.1 in
    let wide = both_false (none_false (none_wide facts.premises) w.0) (both_false (none_false (none_wide_action facts.actions) v.0) (none_false (none_wide facts.conclusions) v.1)) in
    let p = none_parts (wrong_premises r.name facts.premises) (wrong_actions r.name facts.actions ++ wrong_conclusions r.name facts.conclusions) c.reserved in
    let q = none_parts (wrong_actions r.name facts.actions) (wrong_conclusions r.name facts.conclusions) p.1 in
    let premise = none_false (none_premise r.name facts.premises) p.0 in
    let action = none_false (none_action r.name facts.actions) q.0 in
    let conclusion = none_false (none_conclusion r.name facts.conclusions) q.1 in
    let argument = none_false (none_argument r.name facts.premises premise) c.arguments in
    let made = λ (x : List ℕ). made_fresh x facts.premises premise argument in
    let two = no_two r.name facts made c.sorts in
    let behind = every_parts (HasOneSort facts) (in_facts facts.premises) (in_actions facts.actions ++ in_facts facts.conclusions) (one_sort_first r.name facts made c.sorts) in
    let one = every_parts (HasOneSort facts) (in_actions facts.actions) (in_facts facts.conclusions) behind.1 in
    let u = none_parts (unbound r.name facts (in_actions facts.actions)) (unbound r.name facts (in_facts facts.conclusions)) c.unbound in
    let shown = none_false (none_unbound r.name facts (in_actions facts.actions) one.0) u.0 in
    let added = none_false (none_unbound r.name facts (in_facts facts.conclusions) one.1) u.1 in
    both_false wide (both_false two (both_false premise (both_false action (both_false conclusion (both_false argument (both_false shown added))))))

pub right_is_clean : (r : WrittenRule) → rule_is_wrong r ≡ false → RuleClean r
right_is_clean r e =
    let facts = r.facts in
    let a = or_parts _ _ e in
    let w = or_parts _ _ a.0 in
    let v = or_parts _ _ w.1 in
    let b = or_parts _ _ a.1 in
    let p = or_parts _ _ b.1 in
    let k = or_parts _ _ p.1 in
    let q = or_parts _ _ k.1 in
    let g = or_parts _ _ q.1 in
    let u = or_parts _ _ g.1 in
    let made = λ (x : List ℕ). made_fresh x facts.premises p.0 g.0 in
    let behind = every_parts (HasOneSort facts) (in_facts facts.premises) (in_actions facts.actions ++ in_facts facts.conclusions) (one_sort_given facts made b.0) in
    let one = every_parts (HasOneSort facts) (in_actions facts.actions) (in_facts facts.conclusions) behind.1 in
    record {
      wide = none_both (wide_facts facts.premises) _ (false_none (none_wide facts.premises) w.0)
          (none_both (wide_actions facts.actions) _ (false_none (none_wide_action facts.actions) v.0) (false_none (none_wide facts.conclusions) v.1));
      sorts = no_other_mark r.name facts made b.0;
      reserved = none_both (wrong_premises r.name facts.premises) _ (false_none (none_premise r.name facts.premises) p.0)
          (none_both (wrong_actions r.name facts.actions) _ (false_none (none_action r.name facts.actions) k.0) (false_none (none_conclusion r.name facts.conclusions) q.0));
      arguments = false_none (none_argument r.name facts.premises p.0) g.0;
      unbound = none_both (unbound r.name facts (in_actions facts.actions)) _
          (false_none (none_unbound r.name facts (in_actions facts.actions) one.0) u.0) (false_none (none_unbound r.name facts (in_facts facts.conclusions) one.1) u.1);
    }
