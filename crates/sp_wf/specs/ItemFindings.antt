-- The findings on the items of a text, in the order of the text. Source: Tamarin manual, "Checking well-formedness", "Model specification using
-- rules" (let bindings) and "Property specification" (attributes, restrictions).
use Rattle.std.specs.Prelude.{ℕ, List, [], ◌∷◌, ◌++◌, map}
use Rattle.sp_spec.specs.Lists.{is_listed}
use Rattle.sp_spec.specs.Theory.{Lemma}
use Rattle.sp_spec.specs.Written.{WrittenRule}
use Rattle.sp_spec.specs.Signature.{Symbol, Equation}
use Rattle.sp_spec_text.specs.Written.{Attribute, unknown, Item, builtins_item, functions_item, equations_item, heuristic_item, block_item, rule_item, restriction_item, lemma_item, item_functions}
use Rattle.sp_declared.specs.WrittenRules.{item_written, rules_written}
use Rattle.sp_finding.specs.Finding.{Finding, used_twice, bound_twice, two_sorts, attribute_left_out, told}
use Rattle.sp_wf_symbols.specs.SymbolFindings.{wide_symbols, unknown_in_equations}
use Rattle.sp_wf_rules.specs.RuleFindings.{unknown_in_rule, wide_in_rule, sorts_in_rule, reserved_in_rule, arguments_in_rule, destructors_in_rule, unbound_in_rule}
use Rattle.sp_wf_rules.specs.BindingFindings.{BoundNames}
use Rattle.sp_wf_formulas.specs.FormulaFindings.{unknown_in_formula, wide_in_lemma, unbound_in_lemma, unguarded_in_lemma, destructors_in_lemma, sorts_in_lemma, mixed_in_lemma, learning_in_restriction}
use Rattle.sp_wf_formulas.specs.Statements.{item_statements}

abbrev pub on_rules : (WrittenRule → List Finding) → List WrittenRule → List Finding
on_rules on [] = []
on_rules on (r ∷ rs) = on r ++ on_rules on rs

abbrev pub on_lemmas : (Lemma → List Finding) → List Lemma → List Finding
on_lemmas on [] = []
on_lemmas on (l ∷ ls) = on l ++ on_lemmas on ls

abbrev pub on_items : (Item → List Finding) → List Item → List Finding
on_items on [] = []
on_items on (x ∷ xs) = on x ++ on_items on xs

-- ---- rules, restrictions and lemmas alike

abbrev pub wide_in_item : Item → List Finding
wide_in_item x = wide_symbols (item_functions x) ++ (on_rules wide_in_rule (item_written x) ++ on_lemmas wide_in_lemma (item_statements x))

abbrev pub wide_in_items : List Item → List Finding
wide_in_items xs = on_items wide_in_item xs

abbrev pub unknown_in_item : List Symbol → Item → List Finding
unknown_in_item symbols (builtins_item bs) = []
unknown_in_item symbols (functions_item ss) = []
unknown_in_item symbols (equations_item es) = unknown_in_equations symbols es
unknown_in_item symbols (heuristic_item ws) = []
unknown_in_item symbols (block_item w) = []
unknown_in_item symbols (rule_item bs r) = unknown_in_rule symbols r
unknown_in_item symbols (restriction_item r) = unknown_in_formula symbols r.formula
unknown_in_item symbols (lemma_item l as' p) = unknown_in_formula symbols l.formula

abbrev pub unknown_in_items : List Symbol → List Item → List Finding
unknown_in_items symbols xs = on_items (unknown_in_item symbols) xs

abbrev pub names_of_rules : Item → List (List ℕ)
names_of_rules x = map (λ (r : WrittenRule). r.name) (item_written x)

abbrev pub names_of_statements : Item → List (List ℕ)
names_of_statements x = map (λ (l : Lemma). l.name) (item_statements x)

-- of each of these names that stands before it, among these or among those before, what is said of it
abbrev pub told_again : (List ℕ → Finding) → List (List ℕ) → List (List ℕ) → List Finding
told_again say before [] = []
told_again say before (x ∷ xs) = told (is_listed x before) (say x) (told_again say (x ∷ before) xs)

-- each name of a rule that a rule before has, and each of a restriction or a lemma that one before has, behind these names of rules and of those
abbrev pub repeated : List (List ℕ) → List (List ℕ) → List Item → List Finding
repeated rules statements [] = []
repeated rules statements (x ∷ xs) =
    told_again used_twice rules (names_of_rules x) ++ (told_again used_twice statements (names_of_statements x)
    ++ repeated (names_of_rules x ++ rules) (names_of_statements x ++ statements) xs)

-- ---- rules alone

-- on the rules of items, each with what it binds
abbrev pub with_bound : (BoundNames → WrittenRule → List Finding) → List BoundNames → List Item → List Finding
with_bound on [] xs = []
with_bound on (b ∷ bs) [] = []
with_bound on (b ∷ bs) (x ∷ xs) = on_rules (on b) (item_written x) ++ with_bound on bs xs

-- names that are bound twice
abbrev pub twice_in_rule : BoundNames → WrittenRule → List Finding
twice_in_rule b r = told_again (bound_twice r.name) [] b.bound

-- variables with two sorts, and then the bound names that stand with another mark than their binding's
abbrev pub marks_in_rule : BoundNames → WrittenRule → List Finding
marks_in_rule b r = sorts_in_rule r ++ map (two_sorts r.name) b.misused

-- of these items, in which values stand for the names that are bound
abbrev pub findings_on_rules : List Equation → List BoundNames → List Item → List Finding
findings_on_rules es bs xs =
    let rs : List WrittenRule = rules_written xs in
    with_bound twice_in_rule bs xs ++ (with_bound marks_in_rule bs xs ++ (on_rules reserved_in_rule rs ++ (on_rules arguments_in_rule rs
    ++ (on_rules (destructors_in_rule es) rs ++ on_rules unbound_in_rule rs))))

-- ---- restrictions and lemmas alone

abbrev pub findings_on_lemmas : List Equation → List Lemma → List Finding
findings_on_lemmas es ls =
    on_lemmas unbound_in_lemma ls ++ (on_lemmas (unguarded_in_lemma es) ls ++ (on_lemmas (destructors_in_lemma es) ls ++ (on_lemmas sorts_in_lemma ls ++ on_lemmas mixed_in_lemma ls)))

abbrev pub learning_in_item : Item → List Finding
learning_in_item (restriction_item r) = learning_in_restriction r
learning_in_item item = []

-- of the lemma of this name, an attribute that isn't known
abbrev pub left_out_by : List ℕ → Attribute → List Finding
left_out_by n (unknown w) = attribute_left_out n w ∷ []
left_out_by n a = []

abbrev pub left_out_of : List ℕ → List Attribute → List Finding
left_out_of n [] = []
left_out_of n (a ∷ rest) = left_out_by n a ++ left_out_of n rest

abbrev pub attributes_in_item : Item → List Finding
attributes_in_item (lemma_item l as' p) = left_out_of l.name as'
attributes_in_item item = []
