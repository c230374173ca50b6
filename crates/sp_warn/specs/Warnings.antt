-- The warnings on a theory, by number, and for each number in the order of the text. Source: Tamarin manual, "Checking well-formedness"; "Advanced
-- features" (induction).
use Rattle.std.specs.Prelude.{ℕ, Bool, true, false, ◌&&◌, not, List, [], ◌∷◌, ◌++◌, map}
use Rattle.std.specs.List.{flat_map}
use Rattle.sp_spec.specs.Term.{count}
use Rattle.sp_spec.specs.Rule.{Fact, Action}
use Rattle.sp_spec.specs.Formula.{Written, Formula}
use Rattle.sp_spec.specs.Written.{WrittenRule}
use Rattle.sp_spec.specs.Theory.{TraceKind, all_traces, exists_trace}
use Rattle.sp_spec.specs.Constants.{once_after}
use Rattle.sp_spec_text.specs.Written.{Attribute, by_induction, Item, restriction_item, lemma_item, WrittenText}
use Rattle.sp_spec_text.specs.Declared.{resolved}
use Rattle.sp_walk.specs.Atoms.{Atom, happens, equals, precedes, collected}
use Rattle.sp_declared.specs.WrittenRules.{rules_written}
use Rattle.sp_warn.specs.Warning.{Warning, no_source, in_no_rule, several_forms, no_induction, told, line}
use Rattle.sp_warn.specs.Forms.{Form, fact_form, action_form, is_among, made_in, forms_in, differs_from_first}
use Rattle.sp_warn.specs.Constants.{constants_in, alike_among}

-- ---- premises and actions that nothing makes

-- the premises of the rule of this name that aren't among these forms
abbrev pub without_source : List Form → List ℕ → List (Fact Written) → List Warning
without_source made r [] = []
without_source made r (f ∷ fs) = told (not (is_among (fact_form f) made)) (no_source r f.symbol (count f.args)) (without_source made r fs)

abbrev pub sources_of_rule : List Form → WrittenRule → List Warning
sources_of_rule made r = without_source made r.name r.facts.premises

-- in the formula of this name
abbrev pub at_action : List Form → List ℕ → Action Written → List Warning
at_action made x a = told (not (is_among (action_form a) made)) (in_no_rule x a.symbol (count a.args)) []

abbrev pub at_atom : List Form → List ℕ → Atom → List Warning
at_atom made x (happens a i) = at_action made x a
at_atom made x (equals t u) = []
at_atom made x (precedes i j) = []

abbrev pub actions_of_formula : List Form → List ℕ → Formula → List Warning
actions_of_formula made x f = collected (λ bs. at_atom made x) [] f

abbrev pub actions_of_item : List Form → Item → List Warning
actions_of_item made (restriction_item r) = actions_of_formula made r.name r.formula
actions_of_item made (lemma_item l as' p) = actions_of_formula made l.name l.formula
actions_of_item made item = []

-- ---- names that stand in several forms

-- behind these forms, each that isn't that of the first of its name
abbrev pub several_among : List Form → List Form → List Warning
several_among before [] = []
several_among before (x ∷ xs) = told (differs_from_first x before) (several_forms x.symbol) (several_among (before ++ x ∷ []) xs)

-- ---- induction where it has no effect

abbrev pub is_for_induction : List Attribute → Bool
is_for_induction [] = false
is_for_induction (by_induction ∷ rest) = true
is_for_induction (a ∷ rest) = is_for_induction rest

abbrev pub asks_for_trace : TraceKind → Bool
asks_for_trace all_traces = false
asks_for_trace exists_trace = true

abbrev pub induction_of_item : Item → List Warning
induction_of_item (lemma_item l as' p) = told (asks_for_trace l.kind && is_for_induction as') (no_induction l.name) []
induction_of_item item = []

-- ---- all of them

-- on these items, in which values stand for the names that are bound, and symbols for those that are such
abbrev pub warnings_on : List Item → List Warning
warnings_on xs =
    let rules : List WrittenRule = rules_written xs in
    flat_map (sources_of_rule (made_in rules)) rules ++ (flat_map (actions_of_item (made_in rules)) xs
    ++ (alike_among [] (constants_in xs) ++ (several_among [] (forms_in rules) ++ flat_map induction_of_item xs)))

abbrev pub warnings : WrittenText → List Warning
warnings t = warnings_on (resolved t).items

-- a line for each, each line once
abbrev pub lines_of : List Warning → List (List ℕ)
lines_of ws = once_after [] (map line ws)

abbrev pub warning_lines : WrittenText → List (List ℕ)
warning_lines t = lines_of (warnings t)
