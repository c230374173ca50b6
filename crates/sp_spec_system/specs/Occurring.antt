-- The times, the variables and the public names that stand anywhere in a system: in its events and their chains, its formulas, those that are spent, its pairs and its links.
-- Each stands in the list as often as in the system, in its order.
use Rattle.std.specs.Prelude.{ℕ, ◌==◌, Bool, Option, Some, None, flat_map, List, [], ◌∷◌, ◌++◌}
use Rattle.std.specs.List.{list_any}
use Rattle.sp_spec.specs.Term.{Variable, Term, var, constant, name, app, Terms, none, more, in_term}
use Rattle.sp_spec.specs.Rule.{Fact, Action, Facts, occurrences}
use Rattle.sp_spec.specs.Guarded.{Place, free, bound, Time, free_time, bound_time, Atom, acts, same, same_time, before, last, Guarded, truth, falsity, holds, fails, all_of, one_of, some, every, Guardeds, no_more, and_then}
use Rattle.sp_spec_system.specs.System.{Way, chain_begun, chain_done, Happening, rule_step, sending, learning, Event, Link, System}

-- what is asked of each part of an atom: of its terms, and of its times
pub record Reading (A : Type 0) : Type 0 where
  pub of_term : Term Place → List A
  pub of_time : Time → List A

module _ {A : Type 0} (r : Reading A) where
  abbrev pub each_term : Terms Place → List A
  each_term none = []
  each_term (more t ts) = r.of_term t ++ each_term ts

  abbrev pub in_atom : Atom → List A
  in_atom (acts a i) = each_term a.args ++ r.of_time i
  in_atom (same t u) = r.of_term t ++ r.of_term u
  in_atom (same_time i j) = r.of_time i ++ r.of_time j
  in_atom (before i j) = r.of_time i ++ r.of_time j
  in_atom (last i) = r.of_time i

  abbrev pub in_atoms : List Atom → List A
  in_atoms atoms = flat_map in_atom atoms

  abbrev mutual
    pub in_formula : Guarded → List A
    in_formula truth = []
    in_formula falsity = []
    in_formula (holds a) = in_atom a
    in_formula (fails a) = in_atom a
    in_formula (all_of fs) = in_each fs
    in_formula (one_of fs) = in_each fs
    in_formula (some bs guard f) = in_atoms guard ++ in_formula f
    in_formula (every bs guard f) = in_atoms guard ++ in_formula f

    pub in_each : Guardeds → List A
    in_each no_more = []
    in_each (and_then f fs) = in_formula f ++ in_each fs

-- ---- times

abbrev pub time_of : Time → List ℕ
time_of (free_time i) = i ∷ []
time_of (bound_time k) = []

abbrev pub times_read : Reading ℕ
times_read = record { of_term = λ t. []; of_time = time_of }

-- that of a chain's step
abbrev pub way_times : Way → List ℕ
way_times (chain_begun i k ts) = i ∷ []
way_times (chain_done i k ts) = i ∷ []
way_times way = []

abbrev pub happening_times : Happening → List ℕ
happening_times (learning m way) = way_times way
happening_times h = []

abbrev pub event_times : Event → List ℕ
event_times e = e.time ∷ happening_times e.happening

abbrev pub last_times : Option ℕ → List ℕ
last_times None = []
last_times (Some i) = i ∷ []

abbrev pub times_in : System → List ℕ
times_in s =
    flat_map event_times s.events ++ (flat_map (in_formula times_read) s.formulas ++ (flat_map (in_formula times_read) s.spent
    ++ (flat_map (λ (l : Link). l.from ∷ l.to ∷ []) s.links ++ (flat_map (λ (p : ℕ × ℕ). p.0 ∷ p.1 ∷ []) s.order ++ last_times s.last))))

-- the time stands somewhere in the system
abbrev pub has_time : ℕ → System → Bool
has_time i s = list_any (λ j. j == i) (times_in s)

-- ---- variables

abbrev pub variable_of : Place → List Variable
variable_of (free x) = x ∷ []
variable_of (bound k) = []

abbrev pub variables_read : Reading Variable
variables_read = record { of_term = λ t. flat_map variable_of (in_term t); of_time = λ i. [] }

abbrev pub way_variables : Way → List Variable
way_variables (chain_begun i k ts) = flat_map in_term ts
way_variables (chain_done i k ts) = flat_map in_term ts
way_variables way = []

abbrev pub happening_variables : Happening → List Variable
happening_variables (rule_step r facts) = occurrences facts
happening_variables (sending m) = in_term m
happening_variables (learning m way) = in_term m ++ way_variables way

abbrev pub variables_in : System → List Variable
variables_in s =
    flat_map (λ (e : Event). happening_variables e.happening) s.events ++ (flat_map (in_formula variables_read) s.formulas ++ (flat_map (in_formula variables_read) s.spent
    ++ flat_map (λ (p : Term Variable × Term Variable). in_term p.0 ++ in_term p.1) s.unequal))

-- ---- public names

abbrev mutual
  pub names_in_term : {V : Type 0} → Term V → List (List ℕ)
  names_in_term (var x) = []
  names_in_term (constant c) = c ∷ []
  names_in_term (name n) = []
  names_in_term (app f ts) = names_in_terms ts

  pub names_in_terms : {V : Type 0} → Terms V → List (List ℕ)
  names_in_terms none = []
  names_in_terms (more t ts) = names_in_term t ++ names_in_terms ts

abbrev pub names_read : Reading (List ℕ)
names_read = record { of_term = names_in_term; of_time = λ i. [] }

abbrev pub facts_names : Facts Variable → List (List ℕ)
facts_names facts =
    flat_map (λ (f : Fact Variable). names_in_terms f.args) facts.premises ++ (flat_map (λ (a : Action Variable). names_in_terms a.args) facts.actions
    ++ flat_map (λ (f : Fact Variable). names_in_terms f.args) facts.conclusions)

abbrev pub way_names : Way → List (List ℕ)
way_names (chain_begun i k ts) = flat_map names_in_term ts
way_names (chain_done i k ts) = flat_map names_in_term ts
way_names way = []

abbrev pub happening_names : Happening → List (List ℕ)
happening_names (rule_step r facts) = facts_names facts
happening_names (sending m) = names_in_term m
happening_names (learning m way) = names_in_term m ++ way_names way

abbrev pub names_of : System → List (List ℕ)
names_of s =
    flat_map (λ (e : Event). happening_names e.happening) s.events ++ (flat_map (in_formula names_read) s.formulas ++ (flat_map (in_formula names_read) s.spent
    ++ flat_map (λ (p : Term Variable × Term Variable). names_in_term p.0 ++ names_in_term p.1) s.unequal))
