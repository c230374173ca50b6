-- The tests that the code makes, one kind after the other, and item by item.
use Rattle.std.specs.Prelude.{ℕ, Bool, ◌||◌, List, [], ◌∷◌, ◌++◌, map}
use Rattle.std.specs.Str.{bytes_eq}
use Rattle.sp_spec.specs.Lists.{is_listed}
use Rattle.sp_spec.specs.Theory.{Lemma}
use Rattle.sp_spec.specs.Written.{WrittenRule}
use Rattle.sp_spec_text.specs.Written.{Item}
use Rattle.sp_spec.specs.Signature.{Equation}
use Rattle.sp_fact.specs.GroundView.{equation_of}
use Rattle.sp_lines.specs.declared.texts.Texts.{Texts}
use Rattle.sp_lines.specs.TextsView.{texts_of}
use Rattle.sp_finding.specs.Finding.{Finding, used_twice, told}
use Rattle.sp_wf_rules.specs.RuleFindings.{reserved_in_rule, arguments_in_rule, destructors_in_rule, unbound_in_rule}
use Rattle.sp_wf_rules.specs.BindingFindings.{BoundNames}
use Rattle.sp_wf_formulas.specs.FormulaFindings.{unbound_in_lemma, unguarded_in_lemma, destructors_in_lemma, sorts_in_lemma, mixed_in_lemma}
use Rattle.sp_wf.specs.ItemFindings.{names_of_rules, names_of_statements, repeated, twice_in_rule, marks_in_rule, findings_on_rules}
use Rattle.sp_wf.specs.Report.{findings_on_statements}
use Rattle.sp_wf.specs.declared.told.RuleFault.{RuleFault}
use Rattle.sp_wf.specs.declared.told.RuleFault.TheVariants as r
use Rattle.sp_wf.specs.declared.told.BindingFault.{BindingFault}
use Rattle.sp_wf.specs.declared.told.BindingFault.TheVariants as b
use Rattle.sp_wf.specs.declared.told.FormulaFault.{FormulaFault}
use Rattle.sp_wf.specs.declared.told.FormulaFault.TheVariants as f

abbrev pub on_rule : RuleFault → WrittenRule → List Finding
on_rule r.Reserved = reserved_in_rule
on_rule r.Arguments = arguments_in_rule
on_rule (r.Destructor es) = destructors_in_rule (map equation_of es.now.items)
on_rule r.Unbound = unbound_in_rule

abbrev pub on_bound : BindingFault → BoundNames → WrittenRule → List Finding
on_bound b.Twice = twice_in_rule
on_bound b.Marks = marks_in_rule

abbrev pub on_statement : FormulaFault → Lemma → List Finding
on_statement f.Unbound = unbound_in_lemma
on_statement (f.Unguarded es) = unguarded_in_lemma (map equation_of es.now.items)
on_statement (f.Destructor es) = destructors_in_lemma (map equation_of es.now.items)
on_statement f.OtherSort = sorts_in_lemma
on_statement f.Mixed = mixed_in_lemma

-- ---- names, where those before are known by a test

-- it is one of these names
abbrev pub is_one_of : Texts → List ℕ → Bool
is_one_of names q = is_listed q (texts_of names)

-- it is one of these names, or passes the test
abbrev pub or_one_of : List (List ℕ) → (List ℕ → Bool) → List ℕ → Bool
or_one_of [] test q = test q
or_one_of (x ∷ xs) test q = bytes_eq x q || or_one_of xs test q

-- of those of the names that stand before, what is said of them
abbrev pub again : (List ℕ → Finding) → (List ℕ → Bool) → List (List ℕ) → List Finding
again say test [] = []
again say test (x ∷ xs) = told (test x) (say x) (again say (λ q. bytes_eq x q || test q) xs)

-- the names of an item's rules, and those of its restrictions and lemmas
abbrev pub item_again : (List ℕ → Bool) → (List ℕ → Bool) → Item → List Finding
item_again is_rule is_statement x = again used_twice is_rule (names_of_rules x) ++ again used_twice is_statement (names_of_statements x)

abbrev pub all_again : (List ℕ → Bool) → (List ℕ → Bool) → List Item → List Finding
all_again is_rule is_statement [] = []
all_again is_rule is_statement (x ∷ xs) =
    item_again is_rule is_statement x ++ all_again (or_one_of (names_of_rules x) is_rule) (or_one_of (names_of_statements x) is_statement) xs

-- names that stand twice, and then what is wrong with rules, and with restrictions and lemmas
abbrev pub findings_on_named : List Equation → List BoundNames → List Item → List Finding
findings_on_named es bound items = repeated [] [] items ++ (findings_on_rules es bound items ++ findings_on_statements es items)
