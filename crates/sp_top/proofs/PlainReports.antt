-- Every report is quiet: no name of an item has a closing bracket, and no constant a line feed.
use Rattle.std.proofs.Common.{ℕ, Bool, true, false, cond, List, [], ◌∷◌, ◌++◌, sym, subst}
use Rattle.std.specs.List.{flat_map}
use Rattle.sp_spec.specs.Lists.{Every, is_listed}
use Rattle.sp_spec.proofs.Lists.{every_append, every_map, every_weaken}
use Rattle.sp_spec.specs.Signature.{Symbol, Equation}
use Rattle.sp_spec.specs.Theory.{Lemma}
use Rattle.sp_spec.specs.Written.{WrittenRule}
use Rattle.sp_spec_text.specs.Written.{Attribute, reused, of_sources, by_induction, hiding, ranked_by, unknown, Item, builtins_item, functions_item, equations_item, heuristic_item, block_item, rule_item, restriction_item, lemma_item, item_builtins, item_functions, WrittenText, builtins_in, functions_in}
use Rattle.sp_spec_text.specs.Declared.{builtin_of, builtin_symbols, declared_symbols, all_symbols, all_equations, their_equations, resolved}
use Rattle.sp_declared.specs.WrittenRules.{item_written}
use Rattle.sp_finding.specs.Finding as f
use Rattle.sp_finding.specs.Finding.{Finding, line, lines_after}
use Rattle.sp_wf_symbols.specs.SymbolFindings.{left_out, declared_otherwise, wide_symbols}
use Rattle.sp_wf_symbols.specs.EquationFindings.{findings_on_equations}
use Rattle.sp_wf_rules.specs.RuleFindings.{wide_in_rule}
use Rattle.sp_wf_rules.specs.BindingFindings.{bound_in}
use Rattle.sp_wf_formulas.specs.FormulaFindings.{wide_in_lemma}
use Rattle.sp_wf_formulas.specs.Statements.{item_statements, statements_in}
use Rattle.sp_wf.specs.ItemFindings.{unknown_in_items, on_rules, on_lemmas, on_items, wide_in_item, wide_in_items, names_of_rules, names_of_statements, told_again, repeated, findings_on_rules, findings_on_lemmas, learning_in_item, left_out_by, left_out_of, attributes_in_item}
use Rattle.sp_wf.specs.Report.{findings_on_symbols, findings_on_statements, findings, fatal_lines}
use Rattle.sp_warn.specs.Warnings.{warning_lines}
use Rattle.sp_pose.specs.Problem.{IsReported}
use Rattle.sp_top.proofs.PlainNames.{IsPlain}
use Rattle.sp_top.proofs.PlainTexts.{IsPlainRule, IsPlainSymbol, IsPlainLemma, IsPlainAttribute, IsPlainItem, written_plain, text_plain}
use Rattle.sp_top.proofs.PlainFindings.{plain_line, ArePlain, both_plain, plain_told, on_items_plain, builtins_plain, left_out_plain, declared_plain, wide_symbols_plain, unknown_items_plain, equations_plain}
use Rattle.sp_top.proofs.Quiet.{IsCalm, IsQuiet, quiet_plain, quiet_text}
use Rattle.sp_top.proofs.PlainWarnings.{quiet_warnings}
use Rattle.sp_top.proofs.PlainRules.{all_bound_plain, its_rules, names_again_plain, on_rules_plain, wide_rule_plain, rules_plain, on_lemmas_plain, wide_formula_plain, lemmas_plain}

-- ---- what items say

its_functions : (x : Item) → IsPlainItem x → Every IsPlainSymbol (item_functions x)
its_functions (builtins_item bs) h = tt
its_functions (functions_item ss) h = h
its_functions (equations_item es) h = tt
its_functions (heuristic_item ws) h = tt
its_functions (block_item w) h = tt
its_functions (rule_item bs r) h = tt
its_functions (restriction_item r) h = tt
its_functions (lemma_item l as' p) h = tt

its_statements : (x : Item) → IsPlainItem x → Every IsPlainLemma (item_statements x)
its_statements (builtins_item bs) h = tt
its_statements (functions_item ss) h = tt
its_statements (equations_item es) h = tt
its_statements (heuristic_item ws) h = tt
its_statements (block_item w) h = tt
its_statements (rule_item bs r) h = tt
its_statements (restriction_item r) h = (h, tt)
its_statements (lemma_item l as' p) h = (h.0, tt)

its_builtins : (x : Item) → IsPlainItem x → Every IsPlain (item_builtins x)
its_builtins (builtins_item bs) h = h
its_builtins (functions_item ss) h = tt
its_builtins (equations_item es) h = tt
its_builtins (heuristic_item ws) h = tt
its_builtins (block_item w) h = tt
its_builtins (rule_item bs r) h = tt
its_builtins (restriction_item r) h = tt
its_builtins (lemma_item l as' p) h = tt

their_builtins : (xs : List Item) → Every IsPlainItem xs → Every IsPlain (builtins_in xs)
their_builtins [] e = tt
their_builtins (x ∷ xs) e = every_append IsPlain (item_builtins x) (builtins_in xs) (its_builtins x e.0) (their_builtins xs e.1)

their_functions : (xs : List Item) → Every IsPlainItem xs → Every IsPlainSymbol (functions_in xs)
their_functions [] e = tt
their_functions (x ∷ xs) e = every_append IsPlainSymbol (item_functions x) (functions_in xs) (its_functions x e.0) (their_functions xs e.1)

their_statements : (xs : List Item) → Every IsPlainItem xs → Every IsPlainLemma (statements_in xs)
their_statements [] e = tt
their_statements (x ∷ xs) e = every_append IsPlainLemma (item_statements x) (statements_in xs) (its_statements x e.0) (their_statements xs e.1)

-- ---- findings on items

wide_item_plain : (x : Item) → IsPlainItem x → ArePlain (wide_in_item x)
wide_item_plain x h =
    both_plain (wide_symbols (item_functions x)) (on_rules wide_in_rule (item_written x) ++ on_lemmas wide_in_lemma (item_statements x)) (wide_symbols_plain (item_functions x) (its_functions x h))
    (both_plain (on_rules wide_in_rule (item_written x)) (on_lemmas wide_in_lemma (item_statements x)) (on_rules_plain wide_in_rule wide_rule_plain (item_written x) (its_rules x h))
    (on_lemmas_plain wide_in_lemma (λ l k. wide_formula_plain l.formula k.1) (item_statements x) (its_statements x h)))

repeated_plain : (rules statements : List (List ℕ)) (xs : List Item) → Every IsPlainItem xs → ArePlain (repeated rules statements xs)
repeated_plain rules statements [] e = tt
repeated_plain rules statements (x ∷ xs) e =
    let r = names_of_rules x in
    let l = names_of_statements x in
    both_plain (told_again f.used_twice rules r) (told_again f.used_twice statements l ++ repeated (r ++ rules) (l ++ statements) xs)
    (names_again_plain rules r (every_map IsPlainRule IsPlain (λ (q : WrittenRule). q.name) (λ q k. k.name) (item_written x) (its_rules x e.0)))
    (both_plain (told_again f.used_twice statements l) (repeated (r ++ rules) (l ++ statements) xs)
    (names_again_plain statements l (every_map IsPlainLemma IsPlain (λ (q : Lemma). q.name) (λ q k. k.0) (item_statements x) (its_statements x e.0)))
    (repeated_plain (r ++ rules) (l ++ statements) xs e.1))

symbols_plain : (symbols : List Symbol) (xs : List Item) → Every IsPlainItem xs → ArePlain (findings_on_symbols symbols xs)
symbols_plain symbols xs e =
    let builtins = flat_map (λ b. builtin_symbols (builtin_of b)) (builtins_in xs) in
    both_plain (left_out (builtins_in xs)) (declared_otherwise symbols (declared_symbols xs) ++ unknown_in_items symbols xs) (left_out_plain (builtins_in xs) (their_builtins xs e))
    (both_plain (declared_otherwise symbols (declared_symbols xs)) (unknown_in_items symbols xs)
    (declared_plain symbols (declared_symbols xs) (every_append IsPlainSymbol builtins (functions_in xs) (builtins_plain (builtins_in xs)) (their_functions xs e)))
    (unknown_items_plain symbols xs e))

learning_plain : (x : Item) → IsPlainItem x → ArePlain (learning_in_item x)
learning_plain (builtins_item bs) h = tt
learning_plain (functions_item ss) h = tt
learning_plain (equations_item es) h = tt
learning_plain (heuristic_item ws) h = tt
learning_plain (block_item w) h = tt
learning_plain (rule_item bs r) h = tt
learning_plain (restriction_item r) h = plain_told _ (f.restricts_learning r.name) [] h.0 tt
learning_plain (lemma_item l as' p) h = tt

attribute_plain : (n : List ℕ) (a : Attribute) → IsPlain n → IsPlainAttribute a → ArePlain (left_out_by n a)
attribute_plain n reused h k = tt
attribute_plain n of_sources h k = tt
attribute_plain n by_induction h k = tt
attribute_plain n (hiding w) h k = tt
attribute_plain n (ranked_by w) h k = tt
attribute_plain n (unknown w) h k = ((h, k), tt)

attributes_plain : (n : List ℕ) (each : List Attribute) → IsPlain n → Every IsPlainAttribute each → ArePlain (left_out_of n each)
attributes_plain n [] h e = tt
attributes_plain n (a ∷ each) h e = both_plain (left_out_by n a) (left_out_of n each) (attribute_plain n a h e.0) (attributes_plain n each h e.1)

item_attributes_plain : (x : Item) → IsPlainItem x → ArePlain (attributes_in_item x)
item_attributes_plain (builtins_item bs) h = tt
item_attributes_plain (functions_item ss) h = tt
item_attributes_plain (equations_item es) h = tt
item_attributes_plain (heuristic_item ws) h = tt
item_attributes_plain (block_item w) h = tt
item_attributes_plain (rule_item bs r) h = tt
item_attributes_plain (restriction_item r) h = tt
item_attributes_plain (lemma_item l as' p) h = attributes_plain l.name as' h.0.0 h.1

statements_plain : (es : List Equation) (xs : List Item) → Every IsPlainItem xs → ArePlain (findings_on_statements es xs)
statements_plain es xs e =
    both_plain (findings_on_lemmas es (statements_in xs)) (on_items learning_in_item xs ++ on_items attributes_in_item xs) (lemmas_plain es (statements_in xs) (their_statements xs e))
    (both_plain (on_items learning_in_item xs) (on_items attributes_in_item xs) (on_items_plain learning_in_item learning_plain xs e) (on_items_plain attributes_in_item item_attributes_plain xs e))

findings_plain : (t : WrittenText) → Every IsPlainItem t.items → Every IsPlainItem (resolved t).items → ArePlain (findings t)
findings_plain t d e =
    let symbols = all_symbols t.items in
    let ns = all_equations (resolved t).items in
    let xs = (resolved t).items in
    let bs = bound_in t.items in
    both_plain (findings_on_symbols symbols xs) _ (symbols_plain symbols xs e)
    (both_plain (wide_in_items xs) _ (on_items_plain wide_in_item wide_item_plain xs e)
    (both_plain (findings_on_equations symbols ns) _ (equations_plain symbols ns)
    (both_plain (repeated [] [] xs) _ (repeated_plain [] [] xs e)
    (both_plain (findings_on_rules (their_equations ns) bs xs) (findings_on_statements (their_equations ns) xs) (rules_plain (their_equations ns) bs xs (all_bound_plain t.items d) e)
    (statements_plain (their_equations ns) xs e)))))

-- ---- the report

lines_plain : (ls : List (List ℕ)) (xs : List Finding) → Every IsPlain ls → ArePlain xs → Every IsPlain (lines_after ls xs)
lines_plain ls [] h e = h
lines_plain ls (x ∷ xs) h e = lines_plain (cond (is_listed (line x) ls) ls (ls ++ line x ∷ [])) xs (by_test (is_listed (line x) ls)) e.1
  where
    by_test : (b : Bool) → Every IsPlain (cond b ls (ls ++ line x ∷ []))
    by_test true = h
    by_test false = every_append IsPlain ls (line x ∷ []) h (plain_line x e.0, tt)

pub report_calm : (bytes text : List ℕ) → IsReported bytes text → IsCalm text
report_calm bytes text h =
    let t = h.theory in
    let e = text_plain bytes t h.says in
    let fatal : Every IsQuiet (fatal_lines t) = every_weaken IsPlain IsQuiet quiet_plain (fatal_lines t) (lines_plain [] (findings t) tt (findings_plain t (written_plain bytes t h.says) e)) in
    subst IsCalm (sym h.lines_are) (quiet_text (fatal_lines t ++ warning_lines t) (every_append IsQuiet (fatal_lines t) (warning_lines t) fatal (quiet_warnings t e))).calm
