-- The public names that stand in a theory as a text writes it: those of its rules' facts, and those of its formulas.
-- Source: Tamarin manual, "Cryptographic messages" (public names).
use Rattle.std.specs.Prelude.{ℕ, if◌then◌else◌, List, [], ◌∷◌, ◌++◌}
use Rattle.sp_spec.specs.Term.{Term, var, constant, name, app, Terms, none, more}
use Rattle.sp_spec.specs.Rule.{Fact, Action}
use Rattle.sp_spec.specs.Formula.{Written, Formula, truth, falsity, happens, equals, precedes, not_so, both, either, implies, for_all, for_some}
use Rattle.sp_spec.specs.Theory.{Restriction, Lemma}
use Rattle.sp_spec.specs.Written.{WrittenRule, WrittenTheory, is_listed}

-- as they stand, from left to right
abbrev mutual
  pub in_term : Term Written → List (List ℕ)
  in_term (var x) = []
  in_term (constant c) = c ∷ []
  in_term (name n) = []
  in_term (app f ts) = in_terms ts

  pub in_terms : Terms Written → List (List ℕ)
  in_terms none = []
  in_terms (more t ts) = in_term t ++ in_terms ts

abbrev pub in_facts : List (Fact Written) → List (List ℕ)
in_facts [] = []
in_facts (f ∷ fs) = in_terms f.args ++ in_facts fs

abbrev pub in_actions : List (Action Written) → List (List ℕ)
in_actions [] = []
in_actions (a ∷ rest) = in_terms a.args ++ in_actions rest

abbrev pub in_rule : WrittenRule → List (List ℕ)
in_rule r = in_facts r.facts.premises ++ (in_actions r.facts.actions ++ in_facts r.facts.conclusions)

abbrev pub in_rules : List WrittenRule → List (List ℕ)
in_rules [] = []
in_rules (r ∷ rs) = in_rule r ++ in_rules rs

abbrev pub in_formula : Formula → List (List ℕ)
in_formula truth = []
in_formula falsity = []
in_formula (happens a i) = in_terms a.args
in_formula (equals t u) = in_term t ++ in_term u
in_formula (precedes i j) = []
in_formula (not_so f) = in_formula f
in_formula (both f g) = in_formula f ++ in_formula g
in_formula (either f g) = in_formula f ++ in_formula g
in_formula (implies f g) = in_formula f ++ in_formula g
in_formula (for_all x f) = in_formula f
in_formula (for_some x f) = in_formula f

abbrev pub in_restrictions : List Restriction → List (List ℕ)
in_restrictions [] = []
in_restrictions (r ∷ rs) = in_formula r.formula ++ in_restrictions rs

abbrev pub in_lemmas : List Lemma → List (List ℕ)
in_lemmas [] = []
in_lemmas (l ∷ ls) = in_formula l.formula ++ in_lemmas ls

-- behind these names those of the others that don't stand yet, each once
abbrev pub once_after : List (List ℕ) → List (List ℕ) → List (List ℕ)
once_after seen [] = seen
once_after seen (c ∷ cs) = once_after (if is_listed c seen then seen else seen ++ c ∷ []) cs

-- each name once, in the order in which they first stand
abbrev pub constants_of : WrittenTheory → List (List ℕ)
constants_of t = once_after [] (in_rules t.rules ++ (in_restrictions t.restrictions ++ in_lemmas t.lemmas))
