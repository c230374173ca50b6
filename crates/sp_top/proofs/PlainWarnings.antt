-- No line of a warning has a closing bracket but in a constant that it shows in quotes, so it is quiet.
use Rattle.std.proofs.Common.{ℕ, Bool, true, false, cond, List, [], ◌∷◌, ◌++◌, map, codes, refl}
use Rattle.std.specs.Prelude.{decimal}
use Rattle.std.specs.List.{flat_map}
use Rattle.sp_spec.specs.Lists.{Every, is_listed}
use Rattle.sp_spec.proofs.Lists.{every_append, every_map}
use Rattle.sp_spec.specs.Term.{Term, var, constant, name, app, Terms, none, more, count}
use Rattle.sp_spec.specs.Rule.{Fact, Action}
use Rattle.sp_spec.specs.Formula.{Written, Formula, truth, falsity, happens, equals, precedes, not_so, both, either, implies, for_all, for_some}
use Rattle.sp_spec.specs.Written.{WrittenRule}
use Rattle.sp_spec.specs.Constants.{in_term, in_terms, in_facts, in_actions, in_rule, in_formula, once_after}
use Rattle.sp_spec_text.specs.Written.{Item, builtins_item, functions_item, equations_item, heuristic_item, block_item, rule_item, restriction_item, lemma_item, WrittenText}
use Rattle.sp_spec_text.specs.Declared.{resolved}
use Rattle.sp_walk.specs.Atoms.{collected}
use Rattle.sp_declared.specs.WrittenRules.{rules_written}
use Rattle.sp_law_printed_log.proofs.NoFeeds.{NoFeed}
use Rattle.sp_warn.specs.Warning as w
use Rattle.sp_warn.specs.Warning.{Warning, line, told}
use Rattle.sp_warn.specs.Forms.{Form, fact_form, action_form, made_in, forms_of, forms_in}
use Rattle.sp_warn.specs.Constants.{in_equation, in_item, constants_in, alike_before, alike_among}
use Rattle.sp_warn.specs.Warnings.{without_source, sources_of_rule, at_atom, actions_of_item, several_among, induction_of_item, warnings, warning_lines}
use Rattle.sp_top.proofs.PlainNames.{IsPlain, plain_in, IsPlainTerm, ArePlainTerms, IsPlainFact, IsPlainAction, IsPlainFormula}
use Rattle.sp_top.proofs.PlainTexts.{IsPlainRule, IsPlainEquation, IsPlainItem}
use Rattle.sp_top.proofs.PlainFindings.{around, plain_number}
use Rattle.sp_top.proofs.PlainRules.{their_rules}
use Rattle.sp_top.proofs.Quiet.{IsQuiet, quiet_plain, quiet_append, quiet_quoted}

-- ---- the line of a warning

-- the names that it tells have no closing bracket, and the constants no line feed
abbrev IsPlainWarning : Warning → Type 0
IsPlainWarning (w.no_source r f n) = IsPlain r × IsPlain f
IsPlainWarning (w.in_no_rule x f n) = IsPlain x × IsPlain f
IsPlainWarning (w.alike a b) = NoFeed a × NoFeed b
IsPlainWarning (w.several_forms f) = IsPlain f
IsPlainWarning (w.no_induction x) = IsPlain x

-- a name of a rule or a formula, a symbol and the number of its arguments
with_number : (front r mid f : List ℕ) (n : ℕ) (behind : List ℕ) → IsPlain front → IsPlain r → IsPlain mid → IsPlain f → IsPlain behind
    → IsPlain (front ++ (r ++ (mid ++ (f ++ (codes "/" ++ (decimal n ++ behind))))))
with_number front r mid f n behind h k l m e =
    around front r (mid ++ (f ++ (codes "/" ++ (decimal n ++ behind)))) h k
    (around mid f (codes "/" ++ (decimal n ++ behind)) l m (around (codes "/") (decimal n) behind (plain_in (codes "/") refl) (plain_number n) e))

-- each constant stands before a quote
two_constants : (a b : List ℕ) → NoFeed a → NoFeed b → IsQuiet (line (w.alike a b))
unfolding line
two_constants a b h k =
    let last : IsQuiet (codes " differ in case only") = quiet_plain (codes " differ in case only") (plain_in (codes " differ in case only") refl) in
    let second : IsQuiet (codes " and '" ++ (b ++ codes "' differ in case only")) =
    quiet_append (codes " and '") (b ++ codes "' differ in case only") (quiet_plain (codes " and '") (plain_in (codes " and '") refl)) (quiet_quoted b (codes " differ in case only") k last) in
    quiet_append (codes "warning: public constants '") (a ++ (codes "' and '" ++ (b ++ codes "' differ in case only"))) (quiet_plain (codes "warning: public constants '") (plain_in (codes "warning: public constants '") refl))
    (quiet_quoted a (codes " and '" ++ (b ++ codes "' differ in case only")) h second)

quiet_line : (x : Warning) → IsPlainWarning x → IsQuiet (line x)
unfolding line
quiet_line (w.no_source r f n) h =
    quiet_plain _ (with_number (codes "warning: rule ") r (codes ": premise ") f n (codes " has no source") (plain_in (codes "warning: rule ") refl) h.0 (plain_in (codes ": premise ") refl) h.1 (plain_in (codes " has no source") refl))
quiet_line (w.in_no_rule x f n) h =
    quiet_plain _ (with_number (codes "warning: formula ") x (codes ": action ") f n (codes " in no rule") (plain_in (codes "warning: formula ") refl) h.0 (plain_in (codes ": action ") refl) h.1 (plain_in (codes " in no rule") refl))
quiet_line (w.alike a b) h = two_constants a b h.0 h.1
quiet_line (w.several_forms f) h =
    quiet_plain _ (around (codes "warning: fact ") f (codes " has several arities or multiplicities") (plain_in (codes "warning: fact ") refl) h (plain_in (codes " has several arities or multiplicities") refl))
quiet_line (w.no_induction x) h =
    quiet_plain _ (around (codes "warning: lemma ") x (codes ": use_induction on exists-trace") (plain_in (codes "warning: lemma ") refl) h (plain_in (codes ": use_induction on exists-trace") refl))

-- ---- lists of warnings

abbrev AreTold : List Warning → Type 0
AreTold ws = Every IsPlainWarning ws

two_told : (xs ys : List Warning) → AreTold xs → AreTold ys → AreTold (xs ++ ys)
two_told xs ys h k = every_append IsPlainWarning xs ys h k

told_plain : (b : Bool) (x : Warning) (xs : List Warning) → IsPlainWarning x → AreTold xs → AreTold (told b x xs)
told_plain true x xs h k = (h, k)
told_plain false x xs h k = k

every_flat : {A B : Type 0} (P : A → Type 0) (Q : B → Type 0) (f : A → List B) → ((x : A) → P x → Every Q (f x)) → (xs : List A) → Every P xs → Every Q (flat_map f xs)
every_flat P Q f h [] e = tt
every_flat P Q f h (x ∷ xs) e = every_append Q (f x) (flat_map f xs) (h x e.0) (every_flat P Q f h xs e.1)

every_once : (P : List ℕ → Type 0) (seen xs : List (List ℕ)) → Every P seen → Every P xs → Every P (once_after seen xs)
every_once P seen [] h e = h
every_once P seen (x ∷ xs) h e = every_once P (cond (is_listed x seen) seen (seen ++ x ∷ [])) xs (by_test (is_listed x seen)) e.1
  where
    by_test : (t : Bool) → Every P (cond t seen (seen ++ x ∷ []))
    by_test true = h
    by_test false = every_append P seen (x ∷ []) h (e.0, tt)

-- ---- constants

mutual
  term_constants : (t : Term Written) → IsPlainTerm t → Every NoFeed (in_term t)
  term_constants (var x) h = tt
  term_constants (constant c) h = (h, tt)
  term_constants (name n) h = tt
  term_constants (app s ts) h = terms_constants ts h.1

  terms_constants : (ts : Terms Written) → ArePlainTerms ts → Every NoFeed (in_terms ts)
  terms_constants none h = tt
  terms_constants (more t ts) h = every_append NoFeed (in_term t) (in_terms ts) (term_constants t h.0) (terms_constants ts h.1)

facts_constants : (fs : List (Fact Written)) → Every IsPlainFact fs → Every NoFeed (in_facts fs)
facts_constants [] e = tt
facts_constants (x ∷ fs) e = every_append NoFeed (in_terms x.args) (in_facts fs) (terms_constants x.args e.0.1) (facts_constants fs e.1)

actions_constants : (xs : List (Action Written)) → Every IsPlainAction xs → Every NoFeed (in_actions xs)
actions_constants [] e = tt
actions_constants (a ∷ xs) e = every_append NoFeed (in_terms a.args) (in_actions xs) (terms_constants a.args e.0.1) (actions_constants xs e.1)

rule_constants : (r : WrittenRule) → IsPlainRule r → Every NoFeed (in_rule r)
rule_constants r h =
    let x = r.facts in
    every_append NoFeed (in_facts x.premises) (in_actions x.actions ++ in_facts x.conclusions) (facts_constants x.premises h.premises)
    (every_append NoFeed (in_actions x.actions) (in_facts x.conclusions) (actions_constants x.actions h.actions) (facts_constants x.conclusions h.conclusions))

formula_constants : (x : Formula) → IsPlainFormula x → Every NoFeed (in_formula x)
formula_constants truth h = tt
formula_constants falsity h = tt
formula_constants (happens a i) h = terms_constants a.args h.0.1
formula_constants (equals t u) h = every_append NoFeed (in_term t) (in_term u) (term_constants t h.0) (term_constants u h.1)
formula_constants (precedes i j) h = tt
formula_constants (not_so x) h = formula_constants x h
formula_constants (both x y) h = every_append NoFeed (in_formula x) (in_formula y) (formula_constants x h.0) (formula_constants y h.1)
formula_constants (either x y) h = every_append NoFeed (in_formula x) (in_formula y) (formula_constants x h.0) (formula_constants y h.1)
formula_constants (implies x y) h = every_append NoFeed (in_formula x) (in_formula y) (formula_constants x h.0) (formula_constants y h.1)
formula_constants (for_all v x) h = formula_constants x h.1
formula_constants (for_some v x) h = formula_constants x h.1

item_constants : (x : Item) → IsPlainItem x → Every NoFeed (in_item x)
item_constants (builtins_item bs) h = tt
item_constants (functions_item ss) h = tt
item_constants (equations_item es) h =
    every_flat IsPlainEquation NoFeed in_equation (λ e k. every_append NoFeed (in_term e.0) (in_term e.1) (term_constants e.0 k.0) (term_constants e.1 k.1)) es h
item_constants (heuristic_item ws) h = tt
item_constants (block_item b) h = tt
item_constants (rule_item bs r) h = rule_constants r h.1
item_constants (restriction_item r) h = formula_constants r.formula h.1
item_constants (lemma_item l as' p) h = formula_constants l.formula h.0.1

their_constants : (xs : List Item) → Every IsPlainItem xs → Every NoFeed (constants_in xs)
their_constants xs e = every_once NoFeed [] (flat_map in_item xs) tt (every_flat IsPlainItem NoFeed in_item item_constants xs e)

alike_before_plain : (before : List (List ℕ)) (c : List ℕ) → Every NoFeed before → NoFeed c → AreTold (alike_before before c)
alike_before_plain [] c e h = tt
alike_before_plain (b ∷ before) c e h = told_plain _ (w.alike b c) (alike_before before c) (e.0, h) (alike_before_plain before c e.1 h)

alike_plain : (before cs : List (List ℕ)) → Every NoFeed before → Every NoFeed cs → AreTold (alike_among before cs)
alike_plain before [] h e = tt
alike_plain before (c ∷ cs) h e =
    two_told (alike_before before c) (alike_among (before ++ c ∷ []) cs) (alike_before_plain before c h e.0) (alike_plain (before ++ c ∷ []) cs (every_append NoFeed before (c ∷ []) h (e.0, tt)) e.1)

-- ---- premises and actions that nothing makes

sources_plain : (made : List Form) (r : List ℕ) (fs : List (Fact Written)) → IsPlain r → Every IsPlainFact fs → AreTold (without_source made r fs)
sources_plain made r [] h e = tt
sources_plain made r (x ∷ fs) h e = told_plain _ (w.no_source r x.symbol (count x.args)) (without_source made r fs) (h, e.0.0) (sources_plain made r fs h e.1)

module _ (made : List Form) (n : List ℕ) (named : IsPlain n) where
  actions_plain : (bs : List Written) (x : Formula) → IsPlainFormula x → AreTold (collected (λ cs. at_atom made n) bs x)
  actions_plain bs truth h = tt
  actions_plain bs falsity h = tt
  actions_plain bs (happens a i) h = told_plain _ (w.in_no_rule n a.symbol (count a.args)) [] (named, h.0.0) tt
  actions_plain bs (equals t u) h = tt
  actions_plain bs (precedes i j) h = tt
  actions_plain bs (not_so x) h = actions_plain bs x h
  actions_plain bs (both x y) h = two_told _ _ (actions_plain bs x h.0) (actions_plain bs y h.1)
  actions_plain bs (either x y) h = two_told _ _ (actions_plain bs x h.0) (actions_plain bs y h.1)
  actions_plain bs (implies x y) h = two_told _ _ (actions_plain bs x h.0) (actions_plain bs y h.1)
  actions_plain bs (for_all v x) h = actions_plain (v ∷ bs) x h.1
  actions_plain bs (for_some v x) h = actions_plain (v ∷ bs) x h.1

item_actions_plain : (made : List Form) (x : Item) → IsPlainItem x → AreTold (actions_of_item made x)
item_actions_plain made (builtins_item bs) h = tt
item_actions_plain made (functions_item ss) h = tt
item_actions_plain made (equations_item es) h = tt
item_actions_plain made (heuristic_item ws) h = tt
item_actions_plain made (block_item b) h = tt
item_actions_plain made (rule_item bs r) h = tt
item_actions_plain made (restriction_item r) h = actions_plain made r.name h.0 [] r.formula h.1
item_actions_plain made (lemma_item l as' p) h = actions_plain made l.name h.0.0 [] l.formula h.0.1

-- ---- forms, and induction

abbrev IsPlainForm : Form → Type 0
IsPlainForm x = IsPlain x.symbol

forms_plain : (r : WrittenRule) → IsPlainRule r → Every IsPlainForm (forms_of r)
forms_plain r h =
    let x = r.facts in
    let facts : (fs : List (Fact Written)) → Every IsPlainFact fs → Every IsPlainForm (map fact_form fs) = λ fs e. every_map IsPlainFact IsPlainForm fact_form (λ f k. k.0) fs e in
    every_append IsPlainForm (map fact_form x.premises) (map action_form x.actions ++ map fact_form x.conclusions) (facts x.premises h.premises)
    (every_append IsPlainForm (map action_form x.actions) (map fact_form x.conclusions) (every_map IsPlainAction IsPlainForm action_form (λ a k. k.0) x.actions h.actions) (facts x.conclusions h.conclusions))

several_plain : (before xs : List Form) → Every IsPlainForm xs → AreTold (several_among before xs)
several_plain before [] e = tt
several_plain before (x ∷ xs) e = told_plain _ (w.several_forms x.symbol) (several_among (before ++ x ∷ []) xs) e.0 (several_plain (before ++ x ∷ []) xs e.1)

induction_plain : (x : Item) → IsPlainItem x → AreTold (induction_of_item x)
induction_plain (builtins_item bs) h = tt
induction_plain (functions_item ss) h = tt
induction_plain (equations_item es) h = tt
induction_plain (heuristic_item ws) h = tt
induction_plain (block_item b) h = tt
induction_plain (rule_item bs r) h = tt
induction_plain (restriction_item r) h = tt
induction_plain (lemma_item l as' p) h = told_plain _ (w.no_induction l.name) [] h.0.0 tt

-- ---- all of them

warnings_plain : (t : WrittenText) → Every IsPlainItem (resolved t).items → AreTold (warnings t)
warnings_plain t e =
    let xs = (resolved t).items in
    let rules = rules_written xs in
    let made = made_in rules in
    let k = their_rules xs e in
    two_told (flat_map (sources_of_rule made) rules) _ (every_flat IsPlainRule IsPlainWarning (sources_of_rule made) (λ r h. sources_plain made r.name r.facts.premises h.name h.premises) rules k)
    (two_told (flat_map (actions_of_item made) xs) _ (every_flat IsPlainItem IsPlainWarning (actions_of_item made) (item_actions_plain made) xs e)
    (two_told (alike_among [] (constants_in xs)) _ (alike_plain [] (constants_in xs) tt (their_constants xs e))
    (two_told (several_among [] (forms_in rules)) (flat_map induction_of_item xs) (several_plain [] (forms_in rules) (every_flat IsPlainRule IsPlainForm forms_of forms_plain rules k))
    (every_flat IsPlainItem IsPlainWarning induction_of_item induction_plain xs e))))

-- each line that a report has for a warning
pub quiet_warnings : (t : WrittenText) → Every IsPlainItem (resolved t).items → Every IsQuiet (warning_lines t)
quiet_warnings t e = every_once IsQuiet [] (map line (warnings t)) tt (every_map IsPlainWarning IsQuiet line quiet_line (warnings t) (warnings_plain t e))
