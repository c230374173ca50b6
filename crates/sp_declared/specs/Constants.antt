-- The public names that stand in a theory's items, those of rules first, then those of restrictions, each once. Source: Tamarin manual, "Cryptographic messages"
-- (public names).
use Rattle.std.specs.Prelude.{ℕ, List, [], ◌++◌}
use Rattle.sp_spec_text.specs.Written.{Item, restrictions_in, lemmas_in}
use Rattle.sp_spec.specs.Constants.{in_term, in_terms, in_rules, in_restrictions, in_lemmas, once_after}
use Rattle.sp_walk.specs.Atoms.{Atom, happens, equals, precedes}
use Rattle.sp_declared.specs.WrittenRules.{rules_written}

abbrev pub constants_in : List Item → List (List ℕ)
constants_in items = once_after [] (in_rules (rules_written items) ++ (in_restrictions (restrictions_in items) ++ in_lemmas (lemmas_in items)))

-- the names in an atom of a formula
abbrev pub names_at : Atom → List (List ℕ)
names_at (happens a i) = in_terms a.args
names_at (equals t u) = in_term t ++ in_term u
names_at (precedes i j) = []
