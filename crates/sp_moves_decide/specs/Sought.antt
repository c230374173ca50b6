-- Whether a variable, or a public name, stands in the parts of a system, one after the other.
use Rattle.std.specs.Prelude.{ℕ, Bool, false, ◌||◌, List}
use Rattle.std.specs.List.{list_any}
use Rattle.std.specs.Str.{bytes_eq}
use Rattle.sp_spec.specs.Term.{Variable, Term, var, constant, name, app, Terms, none, more, some_variable, some_variables}
use Rattle.sp_spec.specs.Same.{same_variable}
use Rattle.sp_spec.specs.Rule.{Fact, Action, Facts}
use Rattle.sp_spec.specs.Unifier.{Pair}
use Rattle.sp_spec.specs.Guarded.{Place, free, bound, Atom, acts, same, same_time, before, last, Guarded, truth, falsity, holds, fails, all_of, one_of, some, every, Guardeds, no_more, and_then}
use Rattle.sp_spec_system.specs.System.{Way, chain_begun, chain_done, Happening, rule_step, sending, learning, Event, System}

-- what is looked for
pub data Sought : Type 0 where
  variable : Variable → Sought
  public_name : List ℕ → Sought

-- a public name stands in a term
abbrev mutual
  pub term_names : {V : Type 0} → List ℕ → Term V → Bool
  term_names c (var x) = false
  term_names c (constant d) = bytes_eq d c
  term_names c (name n) = false
  term_names c (app f ts) = terms_name c ts

  pub terms_name : {V : Type 0} → List ℕ → Terms V → Bool
  terms_name c none = false
  terms_name c (more t ts) = term_names c t || terms_name c ts

-- a variable of the system, where a formula has one
abbrev pub is_free : Variable → Place → Bool
is_free x (free y) = same_variable x y
is_free x (bound k) = false

abbrev pub term_has : Sought → Term Variable → Bool
term_has (variable x) t = some_variable (same_variable x) t
term_has (public_name c) t = term_names c t

abbrev pub terms_have : Sought → Terms Variable → Bool
terms_have (variable x) ts = some_variables (same_variable x) ts
terms_have (public_name c) ts = terms_name c ts

abbrev pub placed_has : Sought → Term Place → Bool
placed_has (variable x) t = some_variable (is_free x) t
placed_has (public_name c) t = term_names c t

abbrev pub placed_have : Sought → Terms Place → Bool
placed_have (variable x) ts = some_variables (is_free x) ts
placed_have (public_name c) ts = terms_name c ts

abbrev pub fact_has : Sought → Fact Variable → Bool
fact_has s f = terms_have s f.args

abbrev pub action_has : Sought → Action Variable → Bool
action_has s a = terms_have s a.args

abbrev pub facts_have : Sought → Facts Variable → Bool
facts_have s f = list_any (fact_has s) f.premises || (list_any (action_has s) f.actions || list_any (fact_has s) f.conclusions)

abbrev pub way_has : Sought → Way → Bool
way_has s (chain_begun i k ts) = list_any (term_has s) ts
way_has s (chain_done i k ts) = list_any (term_has s) ts
way_has s way = false

abbrev pub happening_has : Sought → Happening → Bool
happening_has s (rule_step r facts) = facts_have s facts
happening_has s (sending m) = term_has s m
happening_has s (learning m way) = term_has s m || way_has s way

abbrev pub event_has : Sought → Event → Bool
event_has s e = happening_has s e.happening

abbrev pub atom_has : Sought → Atom → Bool
atom_has s (acts a i) = placed_have s a.args
atom_has s (same t u) = placed_has s t || placed_has s u
atom_has s (same_time i j) = false
atom_has s (before i j) = false
atom_has s (last i) = false

abbrev mutual
  pub formula_has : Sought → Guarded → Bool
  formula_has s truth = false
  formula_has s falsity = false
  formula_has s (holds a) = atom_has s a
  formula_has s (fails a) = atom_has s a
  formula_has s (all_of fs) = formulas_have s fs
  formula_has s (one_of fs) = formulas_have s fs
  formula_has s (some bs guard f) = list_any (atom_has s) guard || formula_has s f
  formula_has s (every bs guard f) = list_any (atom_has s) guard || formula_has s f

  pub formulas_have : Sought → Guardeds → Bool
  formulas_have s no_more = false
  formulas_have s (and_then f fs) = formula_has s f || formulas_have s fs

abbrev pub pair_has : Sought → Pair → Bool
pair_has s p = term_has s p.0 || term_has s p.1

abbrev pub system_has : Sought → System → Bool
system_has s u =
    list_any (event_has s) u.events || (list_any (formula_has s) u.formulas || (list_any (formula_has s) u.spent || list_any (pair_has s) u.unequal))
