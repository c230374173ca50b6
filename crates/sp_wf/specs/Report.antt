-- The report on a theory: a line for each fatal finding. Source: Tamarin manual, "Checking well-formedness".
use Rattle.std.specs.Prelude.{ℕ, List, [], ◌∷◌, ◌++◌, codes}
use Rattle.sp_spec.specs.Signature.{Symbol, Equation}
use Rattle.sp_spec_text.specs.Written.{Item, WrittenText, builtins_in}
use Rattle.sp_spec_text.specs.Declared.{declared_symbols, all_symbols, Numbered, all_equations, their_equations, resolved}
use Rattle.sp_finding.specs.Finding.{Finding, lines_after}
use Rattle.sp_wf_symbols.specs.SymbolFindings.{left_out, declared_otherwise}
use Rattle.sp_wf_symbols.specs.EquationFindings.{findings_on_equations}
use Rattle.sp_wf_rules.specs.BindingFindings.{BoundNames, bound_in}
use Rattle.sp_wf_formulas.specs.Statements.{statements_in}
use Rattle.sp_wf.specs.ItemFindings.{unknown_in_items, wide_in_items, repeated, findings_on_rules, findings_on_lemmas, on_items, learning_in_item, attributes_in_item}

-- builtins, symbols and terms over them
abbrev pub findings_on_symbols : List Symbol → List Item → List Finding
findings_on_symbols symbols items =
    left_out (builtins_in items) ++ (declared_otherwise symbols (declared_symbols items) ++ unknown_in_items symbols items)

-- restrictions and lemmas: their formulas, and what is said of them
abbrev pub findings_on_statements : List Equation → List Item → List Finding
findings_on_statements es items = findings_on_lemmas es (statements_in items) ++ (on_items learning_in_item items ++ on_items attributes_in_item items)

-- By number, and for each number by item in the order of the text; a finding may stand more than once. The text is one in which values stand for
-- the names that are bound, and symbols for those that are such. With it come the symbols and the equations that it declares, and what its
-- items bind.
abbrev pub findings_by : List Symbol → List Numbered → List BoundNames → WrittenText → List Finding
findings_by symbols numbered bound t =
    findings_on_symbols symbols t.items ++ (wide_in_items t.items ++ (findings_on_equations symbols numbered ++ (repeated [] [] t.items
    ++ (findings_on_rules (their_equations numbered) bound t.items ++ findings_on_statements (their_equations numbered) t.items))))

abbrev pub findings : WrittenText → List Finding
findings t = findings_by (all_symbols t.items) (all_equations (resolved t).items) (bound_in t.items) (resolved t)

-- with a line feed behind each
abbrev pub text_of : List (List ℕ) → List ℕ
text_of [] = []
text_of (l ∷ ls) = l ++ (codes "\n" ++ text_of ls)

-- a line for each finding, each line once
abbrev pub fatal_lines : WrittenText → List (List ℕ)
fatal_lines t = lines_after [] (findings t)
