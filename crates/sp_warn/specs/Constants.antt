-- The public constants of a theory, in the order of the text, and those that differ in case only. Source: Tamarin manual, "Checking well-formedness"
-- (public names).
use Rattle.std.specs.Prelude.{ℕ, Bool, ◌&&◌, not, List, [], ◌∷◌, ◌++◌}
use Rattle.std.specs.Str.{bytes_eq, str_eq_ignore_ascii_case}
use Rattle.std.specs.List.{flat_map}
use Rattle.sp_spec.specs.Term.{Term}
use Rattle.sp_spec.specs.Formula.{Written}
use Rattle.sp_spec.specs.Constants.{in_term, in_rule, in_formula, once_after}
use Rattle.sp_spec_text.specs.Written.{Item, equations_item, rule_item, restriction_item, lemma_item}
use Rattle.sp_warn.specs.Warning.{Warning, alike, told}

abbrev pub in_equation : Term Written × Term Written → List (List ℕ)
in_equation e = in_term e.0 ++ in_term e.1

abbrev pub in_item : Item → List (List ℕ)
in_item (equations_item es) = flat_map in_equation es
in_item (rule_item bs r) = in_rule r
in_item (restriction_item r) = in_formula r.formula
in_item (lemma_item l as' p) = in_formula l.formula
in_item item = []

-- each once, in the order in which they first stand
abbrev pub constants_in : List Item → List (List ℕ)
constants_in xs = once_after [] (flat_map in_item xs)

-- constants have letters of ASCII alone
abbrev pub differ_in_case : List ℕ → List ℕ → Bool
differ_in_case a b = str_eq_ignore_ascii_case a b && not (bytes_eq a b)

-- each of these constants that differs from it in case only
abbrev pub alike_before : List (List ℕ) → List ℕ → List Warning
alike_before [] c = []
alike_before (b ∷ before) c = told (differ_in_case b c) (alike b c) (alike_before before c)

-- of each constant, those that stand before it
abbrev pub alike_among : List (List ℕ) → List (List ℕ) → List Warning
alike_among before [] = []
alike_among before (c ∷ cs) = alike_before before c ++ alike_among (before ++ c ∷ []) cs
