-- No finding on rules, on restrictions or lemmas, or on names tells a name with a closing bracket.
use Rattle.std.proofs.Common.{ℕ, Bool, true, false, cond, List, [], ◌∷◌, ◌++◌, map, Option, Some, None}
use Rattle.std.specs.Option.{option_or}
use Rattle.std.specs.Str.{bytes_eq}
use Rattle.sp_spec.specs.Lists.{Every, is_listed}
use Rattle.sp_spec.proofs.Lists.{every_append, every_map}
use Rattle.sp_spec.specs.Term.{Term, var, constant, name, app, Terms, none, more}
use Rattle.sp_spec.specs.Signature.{Equation}
use Rattle.sp_spec.specs.Rule.{Fact, Action, Facts, in_facts, in_actions, occurrences}
use Rattle.sp_spec.specs.Formula.{Written, Formula, truth, falsity, happens, equals, precedes, not_so, both, either, implies, for_all, for_some}
use Rattle.sp_spec.specs.Theory.{Lemma}
use Rattle.sp_spec.specs.Written.{WrittenRule, in_term, in_terms}
use Rattle.sp_spec_text.specs.Bindings.{Binding}
use Rattle.sp_spec_text.specs.Written.{Item, builtins_item, functions_item, equations_item, heuristic_item, block_item, rule_item, restriction_item, lemma_item}
use Rattle.sp_guard.specs.Unguarded.{QuantifierAbove, nothing_above, turned, below_some, below_all, named_unless, unguarded}
use Rattle.sp_declared.specs.WrittenRules.{item_written, rules_written}
use Rattle.sp_finding.specs.Finding as f
use Rattle.sp_finding.specs.Finding.{Finding}
use Rattle.sp_wf_rules.specs.RuleFindings.{destructors_in_rule, wide_facts, wide_actions, wide_in_rule, two_sorted, sorts_in_rule, wrong_premises, wrong_actions, wrong_conclusions, reserved_in_rule, wrong_arguments, arguments_in_rule, unbound, unbound_in_rule}
use Rattle.sp_wf_rules.specs.BindingFindings.{is_same_mark, Bound, misused_in, misused_at, and_new, misused_after, bound_by, bound_after, BoundNames, item_bound, bound_in}
use Rattle.sp_wf_formulas.specs.FormulaFindings.{destructors_in_lemma, wide_in, Role, as_message, as_time, Use, uses_as, role_of, uses, unbound_uses, other_uses, mixed_uses, unbound_in_lemma, unguarded_at, unguarded_in_lemma, sorts_in_lemma, mixed_in_lemma}
use Rattle.sp_law_guard.specs.GuardedForm.{term_time}
use Rattle.sp_wf.specs.ItemFindings.{on_rules, on_lemmas, told_again, with_bound, twice_in_rule, marks_in_rule, findings_on_rules, findings_on_lemmas}
use Rattle.sp_top.proofs.PlainNames.{IsPlain, IsPlainTerm, ArePlainTerms, IsPlainVariable, IsPlainFact, IsPlainAction, IsPlainFormula}
use Rattle.sp_top.proofs.PlainTexts.{IsPlainRule, IsPlainBinding, IsPlainLemma, IsPlainItem}
use Rattle.sp_top.proofs.PlainFindings.{IsPlainFinding, ArePlain, both_plain, plain_told, plain_if}

-- ---- the variables of terms and facts

mutual
  pub names_in_term : (t : Term Written) → IsPlainTerm t → Every IsPlainVariable (in_term t)
  names_in_term (var x) h = (h, tt)
  names_in_term (constant c) h = tt
  names_in_term (name n) h = tt
  names_in_term (app s ts) h = names_in_terms ts h.1

  names_in_terms : (ts : Terms Written) → ArePlainTerms ts → Every IsPlainVariable (in_terms ts)
  names_in_terms none h = tt
  names_in_terms (more t ts) h = every_append IsPlainVariable (in_term t) (in_terms ts) (names_in_term t h.0) (names_in_terms ts h.1)

names_in_facts : (fs : List (Fact Written)) → Every IsPlainFact fs → Every IsPlainVariable (in_facts fs)
names_in_facts [] e = tt
names_in_facts (x ∷ fs) e = every_append IsPlainVariable (in_terms x.args) (in_facts fs) (names_in_terms x.args e.0.1) (names_in_facts fs e.1)

names_in_actions : (xs : List (Action Written)) → Every IsPlainAction xs → Every IsPlainVariable (in_actions xs)
names_in_actions [] e = tt
names_in_actions (a ∷ xs) e = every_append IsPlainVariable (in_terms a.args) (in_actions xs) (names_in_terms a.args e.0.1) (names_in_actions xs e.1)

pub names_in_rule : (r : WrittenRule) → IsPlainRule r → Every IsPlainVariable (occurrences r.facts)
names_in_rule r h =
    let x = r.facts in
    every_append IsPlainVariable (in_facts x.premises) (in_actions x.actions ++ in_facts x.conclusions) (names_in_facts x.premises h.premises)
    (every_append IsPlainVariable (in_actions x.actions) (in_facts x.conclusions) (names_in_actions x.actions h.actions) (names_in_facts x.conclusions h.conclusions))

-- ---- the names that items bind

pub record IsPlainBound (b : BoundNames) : Type 0 where
  pub bound : Every IsPlain b.bound
  pub misused : Every IsPlain b.misused

abbrev IsPlainName : Bound → Type 0
IsPlainName b = Every IsPlain b.misused

misused_here : (b : Bound) (x : Written) → IsPlainName b → IsPlain x.name → Every IsPlain (misused_in b x)
misused_here b x h k = by_test (is_same_mark b.variable.mark x.mark)
  where
    by_test : (t : Bool) → Every IsPlain (cond t b.misused (x.name ∷ b.misused))
    by_test true = h
    by_test false = (k, h)

misused_plain : (bs : List Bound) (x : Written) → Every IsPlainName bs → IsPlain x.name → Every IsPlain (misused_at bs x)
misused_plain [] x h k = tt
misused_plain (b ∷ bs) x h k = by_test (bytes_eq b.variable.name x.name) (misused_plain bs x h.1 k)
  where
    by_test : (t : Bool) → Every IsPlain (misused_at bs x) → Every IsPlain (cond t (misused_in b x) (misused_at bs x))
    by_test true later = misused_here b x h.0 k
    by_test false later = later

new_plain : (names xs : List (List ℕ)) → Every IsPlain names → Every IsPlain xs → Every IsPlain (and_new names xs)
new_plain names [] h k = h
new_plain names (x ∷ xs) h k = new_plain (cond (is_listed x names) names (names ++ x ∷ [])) xs (by_test (is_listed x names)) k.1
  where
    by_test : (t : Bool) → Every IsPlain (cond t names (names ++ x ∷ []))
    by_test true = h
    by_test false = every_append IsPlain names (x ∷ []) h (k.0, tt)

all_misused_plain : (bs : List Bound) (names : List (List ℕ)) (xs : List Written) → Every IsPlainName bs → Every IsPlain names → Every IsPlainVariable xs → Every IsPlain (misused_after bs names xs)
all_misused_plain bs names [] h k e = k
all_misused_plain bs names (x ∷ xs) h k e = all_misused_plain bs (and_new names (misused_at bs x)) xs h (new_plain names (misused_at bs x) k (misused_plain bs x h e.0)) e.1

bound_after_plain : (above : List Bound) (bs : List Binding) → Every IsPlainName above → Every IsPlainBinding bs → Every IsPlainName (bound_after above bs)
bound_after_plain above [] h k = h
bound_after_plain above (b ∷ bs) h k =
    bound_after_plain (above ++ bound_by above b ∷ []) bs (every_append IsPlainName above (bound_by above b ∷ []) h (all_misused_plain above [] (in_term b.value) h tt (names_in_term b.value k.0.1), tt)) k.1

nothing_bound : IsPlainBound (record { bound = []; misused = [] })
nothing_bound = record { bound = tt; misused = tt }

bound_plain : (x : Item) → IsPlainItem x → IsPlainBound (item_bound x)
bound_plain (builtins_item bs) h = nothing_bound
bound_plain (functions_item ss) h = nothing_bound
bound_plain (equations_item es) h = nothing_bound
bound_plain (heuristic_item ws) h = nothing_bound
bound_plain (block_item w) h = nothing_bound
bound_plain (rule_item bs r) h = record {
  bound = every_map IsPlainBinding IsPlain (λ (b : Binding). b.variable.name) (λ b k. k.0) bs h.0;
  misused = all_misused_plain (bound_after [] bs) [] (occurrences r.facts) (bound_after_plain [] bs tt h.0) tt (names_in_rule r h.1);
}
bound_plain (restriction_item r) h = nothing_bound
bound_plain (lemma_item l as' p) h = nothing_bound

pub all_bound_plain : (xs : List Item) → Every IsPlainItem xs → Every IsPlainBound (bound_in xs)
all_bound_plain xs e = every_map IsPlainItem IsPlainBound item_bound bound_plain xs e

-- ---- rules

wide_facts_plain : (fs : List (Fact Written)) → Every IsPlainFact fs → ArePlain (wide_facts fs)
wide_facts_plain [] e = tt
wide_facts_plain (x ∷ fs) e = plain_told _ (f.arity_above x.symbol) (wide_facts fs) e.0.0 (wide_facts_plain fs e.1)

wide_actions_plain : (xs : List (Action Written)) → Every IsPlainAction xs → ArePlain (wide_actions xs)
wide_actions_plain [] e = tt
wide_actions_plain (a ∷ xs) e = plain_told _ (f.arity_above a.symbol) (wide_actions xs) e.0.0 (wide_actions_plain xs e.1)

pub wide_rule_plain : (r : WrittenRule) → IsPlainRule r → ArePlain (wide_in_rule r)
wide_rule_plain r h =
    let x = r.facts in
    both_plain (wide_facts x.premises) (wide_actions x.actions ++ wide_facts x.conclusions) (wide_facts_plain x.premises h.premises)
    (both_plain (wide_actions x.actions) (wide_facts x.conclusions) (wide_actions_plain x.actions h.actions) (wide_facts_plain x.conclusions h.conclusions))

module _ (r : List ℕ) (named : IsPlain r) where
  sorts_plain : (facts : Facts Written) (xs : List Written) → Every IsPlainVariable xs → ArePlain (two_sorted r facts xs)
  sorts_plain facts [] e = tt
  sorts_plain facts (x ∷ xs) e = plain_told _ (f.two_sorts r x.name) (two_sorted r facts xs) (named, e.0) (sorts_plain facts xs e.1)

  premises_plain : (fs : List (Fact Written)) → Every IsPlainFact fs → ArePlain (wrong_premises r fs)
  premises_plain [] e = tt
  premises_plain (x ∷ fs) e = plain_told _ (f.reserved r x.symbol) (wrong_premises r fs) (named, e.0.0) (premises_plain fs e.1)

  actions_plain : (xs : List (Action Written)) → Every IsPlainAction xs → ArePlain (wrong_actions r xs)
  actions_plain [] e = tt
  actions_plain (a ∷ xs) e = plain_told _ (f.reserved r a.symbol) (wrong_actions r xs) (named, e.0.0) (actions_plain xs e.1)

  conclusions_plain : (fs : List (Fact Written)) → Every IsPlainFact fs → ArePlain (wrong_conclusions r fs)
  conclusions_plain [] e = tt
  conclusions_plain (x ∷ fs) e = plain_told _ (f.reserved r x.symbol) (wrong_conclusions r fs) (named, e.0.0) (conclusions_plain fs e.1)

  arguments_plain : (fs : List (Fact Written)) → ArePlain (wrong_arguments r fs)
  arguments_plain [] = tt
  arguments_plain (x ∷ fs) = plain_told _ (f.fr_argument r) (wrong_arguments r fs) named (arguments_plain fs)

  unbound_plain : (facts : Facts Written) (xs : List Written) → Every IsPlainVariable xs → ArePlain (unbound r facts xs)
  unbound_plain facts [] e = tt
  unbound_plain facts (x ∷ xs) e = plain_told _ (f.in_no_premise r x.name) (unbound r facts xs) (named, e.0) (unbound_plain facts xs e.1)

reserved_plain : (r : WrittenRule) → IsPlainRule r → ArePlain (reserved_in_rule r)
reserved_plain r h =
    let x = r.facts in
    both_plain (wrong_premises r.name x.premises) (wrong_actions r.name x.actions ++ wrong_conclusions r.name x.conclusions) (premises_plain r.name h.name x.premises h.premises)
    (both_plain (wrong_actions r.name x.actions) (wrong_conclusions r.name x.conclusions) (actions_plain r.name h.name x.actions h.actions) (conclusions_plain r.name h.name x.conclusions h.conclusions))

unbound_rule_plain : (r : WrittenRule) → IsPlainRule r → ArePlain (unbound_in_rule r)
unbound_rule_plain r h =
    let x = r.facts in
    both_plain (unbound r.name x (in_actions x.actions)) (unbound r.name x (in_facts x.conclusions)) (unbound_plain r.name h.name x (in_actions x.actions) (names_in_actions x.actions h.actions))
    (unbound_plain r.name h.name x (in_facts x.conclusions) (names_in_facts x.conclusions h.conclusions))

pub on_rules_plain : (on : WrittenRule → List Finding) → ((r : WrittenRule) → IsPlainRule r → ArePlain (on r)) → (rs : List WrittenRule) → Every IsPlainRule rs → ArePlain (on_rules on rs)
on_rules_plain on h [] e = tt
on_rules_plain on h (r ∷ rs) e = both_plain (on r) (on_rules on rs) (h r e.0) (on_rules_plain on h rs e.1)

-- those of items, as they are written
pub its_rules : (x : Item) → IsPlainItem x → Every IsPlainRule (item_written x)
its_rules (builtins_item bs) h = tt
its_rules (functions_item ss) h = tt
its_rules (equations_item es) h = tt
its_rules (heuristic_item ws) h = tt
its_rules (block_item w) h = tt
its_rules (rule_item bs r) h = (h.1, tt)
its_rules (restriction_item r) h = tt
its_rules (lemma_item l as' p) h = tt

pub their_rules : (xs : List Item) → Every IsPlainItem xs → Every IsPlainRule (rules_written xs)
their_rules [] e = tt
their_rules (x ∷ xs) e = every_append IsPlainRule (item_written x) (rules_written xs) (its_rules x e.0) (their_rules xs e.1)

-- ---- what rules bind

again_plain : (say : List ℕ → Finding) → ((x : List ℕ) → IsPlain x → IsPlainFinding (say x)) → (before names : List (List ℕ)) → Every IsPlain names → ArePlain (told_again say before names)
again_plain say h before [] e = tt
again_plain say h before (x ∷ xs) e = plain_told _ (say x) (told_again say (x ∷ before) xs) (h x e.0) (again_plain say h (x ∷ before) xs e.1)

pub names_again_plain : (before names : List (List ℕ)) → Every IsPlain names → ArePlain (told_again f.used_twice before names)
names_again_plain before names e = again_plain f.used_twice (λ x h. h) before names e

twice_plain : (b : BoundNames) (r : WrittenRule) → IsPlainBound b → IsPlainRule r → ArePlain (twice_in_rule b r)
twice_plain b r e h = again_plain (f.bound_twice r.name) (λ x k. (h.name, k)) [] b.bound e.bound

marks_plain : (b : BoundNames) (r : WrittenRule) → IsPlainBound b → IsPlainRule r → ArePlain (marks_in_rule b r)
marks_plain b r e h =
    both_plain (sorts_in_rule r) (map (f.two_sorts r.name) b.misused) (sorts_plain r.name h.name r.facts (occurrences r.facts) (names_in_rule r h))
    (every_map IsPlain IsPlainFinding (f.two_sorts r.name) (λ x k. (h.name, k)) b.misused e.misused)

with_bound_plain : (on : BoundNames → WrittenRule → List Finding) → ((b : BoundNames) (r : WrittenRule) → IsPlainBound b → IsPlainRule r → ArePlain (on b r)) → (bs : List BoundNames) (xs : List Item) → Every IsPlainBound bs → Every IsPlainItem xs
    → ArePlain (with_bound on bs xs)
with_bound_plain on h [] xs d e = tt
with_bound_plain on h (b ∷ bs) [] d e = tt
with_bound_plain on h (b ∷ bs) (x ∷ xs) d e =
    both_plain (on_rules (on b) (item_written x)) (with_bound on bs xs) (on_rules_plain (on b) (λ r k. h b r d.0 k) (item_written x) (its_rules x e.0)) (with_bound_plain on h bs xs d.1 e.1)

pub rules_plain : (es : List Equation) (bs : List BoundNames) (xs : List Item) → Every IsPlainBound bs → Every IsPlainItem xs → ArePlain (findings_on_rules es bs xs)
rules_plain es bs xs d e =
    let rs = rules_written xs in
    let k = their_rules xs e in
    both_plain (with_bound twice_in_rule bs xs) _ (with_bound_plain twice_in_rule twice_plain bs xs d e)
    (both_plain (with_bound marks_in_rule bs xs) _ (with_bound_plain marks_in_rule marks_plain bs xs d e)
    (both_plain (on_rules reserved_in_rule rs) _ (on_rules_plain reserved_in_rule reserved_plain rs k)
    (both_plain (on_rules arguments_in_rule rs) _ (on_rules_plain arguments_in_rule (λ r h. arguments_plain r.name h.name r.facts.premises) rs k)
    (both_plain (on_rules (destructors_in_rule es) rs) _ (on_rules_plain (destructors_in_rule es) (λ r h. plain_told _ (f.destructor_in_premise r.name) [] h.name tt) rs k)
    (on_rules_plain unbound_in_rule unbound_rule_plain rs k)))))

-- ---- lemmas

pub wide_formula_plain : (x : Formula) → IsPlainFormula x → ArePlain (wide_in x)
wide_formula_plain truth h = tt
wide_formula_plain falsity h = tt
wide_formula_plain (happens a i) h = plain_told _ (f.arity_above a.symbol) [] h.0.0 tt
wide_formula_plain (equals t u) h = tt
wide_formula_plain (precedes i j) h = tt
wide_formula_plain (not_so x) h = wide_formula_plain x h
wide_formula_plain (both x y) h = both_plain (wide_in x) (wide_in y) (wide_formula_plain x h.0) (wide_formula_plain y h.1)
wide_formula_plain (either x y) h = both_plain (wide_in x) (wide_in y) (wide_formula_plain x h.0) (wide_formula_plain y h.1)
wide_formula_plain (implies x y) h = both_plain (wide_in x) (wide_in y) (wide_formula_plain x h.0) (wide_formula_plain y h.1)
wide_formula_plain (for_all v x) h = wide_formula_plain x h.1
wide_formula_plain (for_some v x) h = wide_formula_plain x h.1

abbrev IsPlainUse : Use → Type 0
IsPlainUse u = IsPlain u.variable.name

uses_as_plain : (role : Role) (bs xs : List Written) → Every IsPlainVariable xs → Every IsPlainUse (uses_as role bs xs)
uses_as_plain role bs [] e = tt
uses_as_plain role bs (x ∷ xs) e = (e.0, uses_as_plain role bs xs e.1)

two_uses : (xs ys : List Use) → Every IsPlainUse xs → Every IsPlainUse ys → Every IsPlainUse (xs ++ ys)
two_uses xs ys h k = every_append IsPlainUse xs ys h k

uses_plain : (bs : List Written) (x : Formula) → IsPlainFormula x → Every IsPlainUse (uses bs x)
uses_plain bs truth h = tt
uses_plain bs falsity h = tt
uses_plain bs (happens a i) h = two_uses (uses_as as_message bs (in_terms a.args)) (uses_as as_time bs (i ∷ [])) (uses_as_plain as_message bs (in_terms a.args) (names_in_terms a.args h.0.1)) (h.1, tt)
uses_plain bs (equals t u) h =
    uses_as_plain (role_of (term_time bs t) (term_time bs u)) bs (in_term t ++ in_term u) (every_append IsPlainVariable (in_term t) (in_term u) (names_in_term t h.0) (names_in_term u h.1))
uses_plain bs (precedes i j) h = (h.0, (h.1, tt))
uses_plain bs (not_so x) h = uses_plain bs x h
uses_plain bs (both x y) h = two_uses (uses bs x) (uses bs y) (uses_plain bs x h.0) (uses_plain bs y h.1)
uses_plain bs (either x y) h = two_uses (uses bs x) (uses bs y) (uses_plain bs x h.0) (uses_plain bs y h.1)
uses_plain bs (implies x y) h = two_uses (uses bs x) (uses bs y) (uses_plain bs x h.0) (uses_plain bs y h.1)
uses_plain bs (for_all v x) h = uses_plain (v ∷ bs) x h.1
uses_plain bs (for_some v x) h = uses_plain (v ∷ bs) x h.1

module _ (n : List ℕ) (named : IsPlain n) where
  unbound_uses_plain : (us : List Use) → Every IsPlainUse us → ArePlain (unbound_uses n us)
  unbound_uses_plain [] e = tt
  unbound_uses_plain (u ∷ us) e = plain_told _ (f.without_binder n u.variable.name) (unbound_uses n us) (named, e.0) (unbound_uses_plain us e.1)

  other_uses_plain : (us : List Use) → Every IsPlainUse us → ArePlain (other_uses n us)
  other_uses_plain [] e = tt
  other_uses_plain (u ∷ us) e = plain_told _ (f.other_sort n u.variable.name) (other_uses n us) (named, e.0) (other_uses_plain us e.1)

  mixed_uses_plain : (us : List Use) → Every IsPlainUse us → ArePlain (mixed_uses n us)
  mixed_uses_plain [] e = tt
  mixed_uses_plain (u ∷ us) e = plain_told _ (f.mixed_at n u.variable.name) (mixed_uses n us) (named, e.0) (mixed_uses_plain us e.1)

abbrev MayBePlain : Option (List ℕ) → Type 0
MayBePlain None = Unit {0}
MayBePlain (Some x) = IsPlain x

either_plain : (o p : Option (List ℕ)) → MayBePlain o → MayBePlain p → MayBePlain (option_or o p)
either_plain None p h k = k
either_plain (Some x) p h k = h

unless_plain : (v : Written) (b : Bool) (o : Option (List ℕ)) → IsPlain v.name → MayBePlain o → MayBePlain (named_unless v b o)
unless_plain v true o h k = k
unless_plain v false o h k = h

unguarded_plain : (bs : List Written) (above : QuantifierAbove) (x : Formula) → IsPlainFormula x → MayBePlain (unguarded bs above x)
unguarded_plain bs above truth h = tt
unguarded_plain bs above falsity h = tt
unguarded_plain bs above (happens a i) h = tt
unguarded_plain bs above (equals t u) h = tt
unguarded_plain bs above (precedes i j) h = tt
unguarded_plain bs above (not_so x) h = unguarded_plain bs (turned above) x h
unguarded_plain bs above (both x y) h = either_plain _ _ (unguarded_plain bs nothing_above x h.0) (unguarded_plain bs nothing_above y h.1)
unguarded_plain bs above (either x y) h = either_plain _ _ (unguarded_plain bs nothing_above x h.0) (unguarded_plain bs nothing_above y h.1)
unguarded_plain bs above (implies x y) h = either_plain _ _ (unguarded_plain bs nothing_above x h.0) (unguarded_plain bs nothing_above y h.1)
unguarded_plain bs above (for_all v x) h = unless_plain v _ _ h.0 (unguarded_plain (v ∷ bs) (below_all v above) x h.1)
unguarded_plain bs above (for_some v x) h = unless_plain v _ _ h.0 (unguarded_plain (v ∷ bs) (below_some v above) x h.1)

at_plain : (n : List ℕ) (o : Option (List ℕ)) → IsPlain n → MayBePlain o → ArePlain (unguarded_at n o)
at_plain n None h k = tt
at_plain n (Some x) h k = ((h, k), tt)

pub on_lemmas_plain : (on : Lemma → List Finding) → ((l : Lemma) → IsPlainLemma l → ArePlain (on l)) → (ls : List Lemma) → Every IsPlainLemma ls → ArePlain (on_lemmas on ls)
on_lemmas_plain on h [] e = tt
on_lemmas_plain on h (l ∷ ls) e = both_plain (on l) (on_lemmas on ls) (h l e.0) (on_lemmas_plain on h ls e.1)

pub lemmas_plain : (es : List Equation) (ls : List Lemma) → Every IsPlainLemma ls → ArePlain (findings_on_lemmas es ls)
lemmas_plain es ls e =
    both_plain (on_lemmas unbound_in_lemma ls) _ (on_lemmas_plain unbound_in_lemma (λ l h. unbound_uses_plain l.name h.0 (uses [] l.formula) (uses_plain [] l.formula h.1)) ls e)
    (both_plain (on_lemmas (unguarded_in_lemma es) ls) _ (on_lemmas_plain (unguarded_in_lemma es) (λ l h. plain_if _ _ (at_plain l.name _ h.0 (unguarded_plain [] nothing_above l.formula h.1))) ls e)
    (both_plain (on_lemmas (destructors_in_lemma es) ls) _ (on_lemmas_plain (destructors_in_lemma es) (λ l h. plain_told _ (f.destructor_in_formula l.name) [] h.0 tt) ls e)
    (both_plain (on_lemmas sorts_in_lemma ls) _ (on_lemmas_plain sorts_in_lemma (λ l h. other_uses_plain l.name h.0 (uses [] l.formula) (uses_plain [] l.formula h.1)) ls e)
    (on_lemmas_plain mixed_in_lemma (λ l h. mixed_uses_plain l.name h.0 (uses [] l.formula) (uses_plain [] l.formula h.1)) ls e))))
