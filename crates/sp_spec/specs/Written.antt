-- A theory as a text writes it, before its rules' variables are numbered and their sorts settled, and the theory that it stands for.
-- Source: Tamarin manual, "Model specification using rules" (sorts of variables, Fr facts).
use Rattle.std.specs.Prelude.{ℕ, zero, suc, Bool, true, false, ◌&&◌, ◌||◌, if◌then◌else◌, List, [], ◌∷◌, ◌++◌, map, codes}
use Rattle.std.specs.Str.{bytes_eq}
pub use Rattle.sp_spec.specs.Lists.{is_listed}
pub use Rattle.sp_spec.specs.Term.{in_term, in_terms}
pub use Rattle.sp_spec.specs.Rule.{in_facts, in_actions, occurrences}
use Rattle.sp_spec.specs.Term.{Sort, Msg, Fresh, Pub, Variable, Term, var, Terms, none, more}
use Rattle.sp_spec.specs.Signature.{Symbol, Equation}
use Rattle.sp_spec.specs.Rule.{Fact, Facts, Rule, facts_at}
use Rattle.sp_spec.specs.Formula.{Mark, of_sort, Written}
use Rattle.sp_spec.specs.Theory.{Restriction, Lemma, Theory}

pub record WrittenRule : Type 0 where
  pub name : List ℕ
  pub facts : Facts Written

-- its symbols and equations are those that it adds to the pairs', whether it declares them or names builtins that have them
pub record WrittenTheory : Type 0 where
  pub name : List ℕ
  pub symbols : List Symbol
  pub equations : List Equation
  pub rules : List WrittenRule
  pub restrictions : List Restriction
  pub lemmas : List Lemma

-- the argument of a premise Fr is fresh in the whole rule
abbrev pub is_argument : List ℕ → Terms Written → Bool
is_argument x (more (var y) none) = bytes_eq y.name x
is_argument x ts = false

abbrev pub is_fr_argument : List ℕ → List (Fact Written) → Bool
is_fr_argument x [] = false
is_fr_argument x (f ∷ fs) = (bytes_eq f.symbol (codes "Fr") && is_argument x f.args) || is_fr_argument x fs

abbrev pub is_marked : Sort → Mark → Bool
is_marked Fresh (of_sort Fresh) = true
is_marked Pub (of_sort Pub) = true
is_marked sort mark = false

abbrev pub is_written : Sort → List ℕ → List Written → Bool
is_written sort x [] = false
is_written sort x (y ∷ ys) = (bytes_eq y.name x && is_marked sort y.mark) || is_written sort x ys

abbrev pub sort_in : Facts Written → List ℕ → Sort
sort_in facts x =
    if is_fr_argument x facts.premises || is_written Fresh x (occurrences facts) then Fresh
    else if is_written Pub x (occurrences facts) then Pub
    else Msg

-- the names, each once, in first-seen order
abbrev pub names_after : List (List ℕ) → List Written → List (List ℕ)
names_after seen [] = seen
names_after seen (x ∷ xs) = names_after (if is_listed x.name seen then seen else seen ++ x.name ∷ []) xs

abbrev pub rule_names : Facts Written → List (List ℕ)
rule_names facts = names_after [] (occurrences facts)

-- the place of a name
abbrev pub place_of : List ℕ → List (List ℕ) → ℕ
place_of x [] = zero
place_of x (y ∷ ys) = if bytes_eq y x then zero else suc (place_of x ys)

abbrev pub numbered_in : Facts Written → Written → Term Variable
numbered_in facts x = var (record { sort = sort_in facts x.name; number = place_of x.name (rule_names facts) })

abbrev pub rule_of : WrittenRule → Rule
rule_of r = record {
  name = r.name;
  variables = map (λ x. record { name = x; sort = sort_in r.facts x }) (rule_names r.facts);
  facts = facts_at (numbered_in r.facts) r.facts;
}

abbrev pub theory_of : WrittenTheory → Theory
theory_of t = record { symbols = t.symbols; equations = t.equations; rules = map rule_of t.rules; restrictions = t.restrictions; lemmas = t.lemmas }
