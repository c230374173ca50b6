-- Restrictions and lemmas, seen alike: formulas with names. Source: Tamarin manual, "Property specification" (restrictions).
use Rattle.std.specs.Prelude.{ℕ, List, [], ◌∷◌, ◌++◌}
use Rattle.sp_spec.specs.Formula.{Formula}
use Rattle.sp_spec.specs.Theory.{all_traces, Restriction, Lemma}
use Rattle.sp_spec_text.specs.Written.{Item, restriction_item, lemma_item}

-- a formula with a name, as a lemma of all traces
abbrev pub statement : List ℕ → Formula → Lemma
statement n f = record { name = n; kind = all_traces; formula = f }

abbrev pub as_lemma : Restriction → Lemma
as_lemma r = statement r.name r.formula

-- a restriction, or a lemma
abbrev pub item_statements : Item → List Lemma
item_statements (restriction_item r) = as_lemma r ∷ []
item_statements (lemma_item l as' p) = l ∷ []
item_statements item = []

-- and all of them, in the order of the text
abbrev pub statements_in : List Item → List Lemma
statements_in [] = []
statements_in (x ∷ items) = item_statements x ++ statements_in items
