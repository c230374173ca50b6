-- What stands in a system stands in one of its parts.
use Rattle.std.proofs.Common.{◌≡◌, ℕ, Bool, false, ◌||◌, List, [], ◌∷◌, ◌++◌, refl, sym, ap, ap₂, ◌∙◌}
use Rattle.std.specs.Prelude.{flat_map}
use Rattle.std.specs.List.{list_any}
use Rattle.std.specs.Str.{bytes_eq}
use Rattle.std.proofs.Math.Bool.{or-false, or_assoc}
use Rattle.std.proofs.lemmas.List.Folds.{list_any-append}
use Rattle.sp_spec.specs.Lists.{is_listed}
use Rattle.sp_spec.specs.Term.{Variable, Term, var, constant, name, app, Terms, none, more, in_term, in_terms, some_variable, some_variables}
use Rattle.sp_spec.specs.Same.{same_variable}
use Rattle.sp_spec.specs.Rule.{Fact, Action, Facts, in_facts, in_actions}
use Rattle.sp_spec.specs.Unifier.{Pair}
use Rattle.sp_spec.specs.Guarded.{Place, free, bound, Time, Atom, acts, same, same_time, before, last, Guarded, truth, falsity, holds, fails, all_of, one_of, some, every, Guardeds, no_more, and_then}
use Rattle.sp_spec_system.specs.System.{Way, anyhow, public_name, own_name, constructed, chain_begun, chain_done, Happening, rule_step, sending, learning, Event, System}
use Rattle.sp_spec_system.specs.Occurring.{Reading, each_term, in_atom, in_atoms, in_formula, in_each, variable_of, variables_read, way_variables, happening_variables, names_in_term, names_in_terms, names_read, facts_names, way_names, happening_names, names_of}
use Rattle.sp_spec_formula.specs.Top.{has_variable}
use Rattle.sp_moves_decide.specs.Sought as sought
use Rattle.sp_moves_decide.specs.Sought.{Sought, term_names, terms_name, is_free, term_has, placed_has, placed_have, fact_has, action_has, facts_have, way_has, happening_has, event_has, atom_has, formula_has, formulas_have, pair_has, system_has}

-- ---- lists

module _ {A : Type 0} (test : A → Bool) where
  both : (front back : List A) (a b : Bool) → list_any test front ≡ a → list_any test back ≡ b → list_any test (front ++ back) ≡ (a || b)
  both front back a b is later = list_any-append test front back ∙ ap₂ (λ (c d : Bool). c || d) is later

  each : {X : Type 0} (of : X → List A) (has : X → Bool) → ((x : X) → list_any test (of x) ≡ has x) → (xs : List X) → list_any test (flat_map of xs) ≡ list_any has xs
  each of has h [] = refl
  each of has h (x ∷ xs) = both (of x) (flat_map of xs) (has x) (list_any has xs) (h x) (each of has h xs)

-- ---- terms

module _ {V : Type 0} (test : V → Bool) where
  mutual
    some_in_term : (t : Term V) → list_any test (in_term t) ≡ some_variable test t
    some_in_term (var x) = or-false (test x)
    some_in_term (constant c) = refl
    some_in_term (name n) = refl
    some_in_term (app f ts) = some_in_terms ts

    some_in_terms : (ts : Terms V) → list_any test (in_terms ts) ≡ some_variables test ts
    some_in_terms none = refl
    some_in_terms (more t ts) = both test (in_term t) (in_terms ts) (some_variable test t) (some_variables test ts) (some_in_term t) (some_in_terms ts)

abbrev is_it : List ℕ → List ℕ → Bool
is_it c d = bytes_eq d c

listed_any : (c : List ℕ) (ds : List (List ℕ)) → is_listed c ds ≡ list_any (is_it c) ds
listed_any c [] = refl
listed_any c (d ∷ ds) = ap (λ (b : Bool). bytes_eq d c || b) (listed_any c ds)

module _ {V : Type 0} (c : List ℕ) where
  mutual
    named_in_term : (t : Term V) → list_any (is_it c) (names_in_term t) ≡ term_names c t
    named_in_term (var x) = refl
    named_in_term (constant d) = or-false (bytes_eq d c)
    named_in_term (name n) = refl
    named_in_term (app f ts) = named_in_terms ts

    named_in_terms : (ts : Terms V) → list_any (is_it c) (names_in_terms ts) ≡ terms_name c ts
    named_in_terms none = refl
    named_in_terms (more t ts) = both (is_it c) (names_in_term t) (names_in_terms ts) (term_names c t) (terms_name c ts) (named_in_term t) (named_in_terms ts)

-- ---- formulas, and all parts

module _ {A : Type 0} (test : A → Bool) (r : Reading A) (s : Sought) (no_time : (i : Time) → list_any test (r.of_time i) ≡ false)
    (at_term : (t : Term Place) → list_any test (r.of_term t) ≡ placed_has s t) (at_terms : (ts : Terms Place) → list_any test (each_term r ts) ≡ placed_have s ts) where
  at_atom : (a : Atom) → list_any test (in_atom r a) ≡ atom_has s a
  at_atom (acts a i) = both test (each_term r a.args) (r.of_time i) (placed_have s a.args) false (at_terms a.args) (no_time i) ∙ or-false (placed_have s a.args)
  at_atom (same t u) = both test (r.of_term t) (r.of_term u) (placed_has s t) (placed_has s u) (at_term t) (at_term u)
  at_atom (same_time i j) = both test (r.of_time i) (r.of_time j) false false (no_time i) (no_time j)
  at_atom (before i j) = both test (r.of_time i) (r.of_time j) false false (no_time i) (no_time j)
  at_atom (last i) = no_time i

  at_guard : (guard : List Atom) → list_any test (in_atoms r guard) ≡ list_any (atom_has s) guard
  at_guard guard = each test (in_atom r) (atom_has s) at_atom guard

  mutual
    at_formula : (f : Guarded) → list_any test (in_formula r f) ≡ formula_has s f
    at_formula truth = refl
    at_formula falsity = refl
    at_formula (holds a) = at_atom a
    at_formula (fails a) = at_atom a
    at_formula (all_of fs) = at_each fs
    at_formula (one_of fs) = at_each fs
    at_formula (some bs guard f) = both test (in_atoms r guard) (in_formula r f) (list_any (atom_has s) guard) (formula_has s f) (at_guard guard) (at_formula f)
    at_formula (every bs guard f) = both test (in_atoms r guard) (in_formula r f) (list_any (atom_has s) guard) (formula_has s f) (at_guard guard) (at_formula f)

    at_each : (fs : Guardeds) → list_any test (in_each r fs) ≡ formulas_have s fs
    at_each no_more = refl
    at_each (and_then f fs) = both test (in_formula r f) (in_each r fs) (formula_has s f) (formulas_have s fs) (at_formula f) (at_each fs)

  all_parts : (of_happening : Happening → List A) (of_pair : Pair → List A) → ((h : Happening) → list_any test (of_happening h) ≡ happening_has s h)
      → ((p : Pair) → list_any test (of_pair p) ≡ pair_has s p) → (u : System)
      → list_any test (flat_map (λ (e : Event). of_happening e.happening) u.events ++ (flat_map (in_formula r) u.formulas ++ (flat_map (in_formula r) u.spent ++ flat_map of_pair u.unequal)))
      ≡ system_has s u
  all_parts of_happening of_pair at_happening at_pair u =
      both test _ _ (list_any (event_has s) u.events) _ (each test (λ (e : Event). of_happening e.happening) (event_has s) (λ e. at_happening e.happening) u.events)
      (both test _ _ (list_any (formula_has s) u.formulas) _ (each test (in_formula r) (formula_has s) at_formula u.formulas)
      (both test _ _ (list_any (formula_has s) u.spent) _ (each test (in_formula r) (formula_has s) at_formula u.spent) (each test of_pair (pair_has s) at_pair u.unequal)))

-- ---- a variable

module _ (x : Variable) where
  at_place : (p : Place) → list_any (same_variable x) (variable_of p) ≡ is_free x p
  at_place (free y) = or-false (same_variable x y)
  at_place (bound k) = refl

  placed_term : (t : Term Place) → list_any (same_variable x) (flat_map variable_of (in_term t)) ≡ some_variable (is_free x) t
  placed_term t = each (same_variable x) variable_of (is_free x) at_place (in_term t) ∙ some_in_term (is_free x) t

  placed_terms : (ts : Terms Place) → list_any (same_variable x) (each_term variables_read ts) ≡ some_variables (is_free x) ts
  placed_terms none = refl
  placed_terms (more t ts) =
      both (same_variable x) (flat_map variable_of (in_term t)) (each_term variables_read ts) (some_variable (is_free x) t) (some_variables (is_free x) ts) (placed_term t) (placed_terms ts)

  at_facts : (fs : List (Fact Variable)) → list_any (same_variable x) (in_facts fs) ≡ list_any (fact_has (sought.variable x)) fs
  at_facts [] = refl
  at_facts (f ∷ fs) = both (same_variable x) (in_terms f.args) (in_facts fs) (some_variables (same_variable x) f.args) _ (some_in_terms (same_variable x) f.args) (at_facts fs)

  at_actions : (fs : List (Action Variable)) → list_any (same_variable x) (in_actions fs) ≡ list_any (action_has (sought.variable x)) fs
  at_actions [] = refl
  at_actions (f ∷ fs) = both (same_variable x) (in_terms f.args) (in_actions fs) (some_variables (same_variable x) f.args) _ (some_in_terms (same_variable x) f.args) (at_actions fs)

  at_way : (way : Way) → list_any (same_variable x) (way_variables way) ≡ way_has (sought.variable x) way
  at_way anyhow = refl
  at_way public_name = refl
  at_way own_name = refl
  at_way constructed = refl
  at_way (chain_begun i k ts) = each (same_variable x) in_term (term_has (sought.variable x)) (some_in_term (same_variable x)) ts
  at_way (chain_done i k ts) = each (same_variable x) in_term (term_has (sought.variable x)) (some_in_term (same_variable x)) ts

  at_happening : (h : Happening) → list_any (same_variable x) (happening_variables h) ≡ happening_has (sought.variable x) h
  at_happening (rule_step r facts) =
      both (same_variable x) (in_facts facts.premises) _ _ _ (at_facts facts.premises)
      (both (same_variable x) (in_actions facts.actions) (in_facts facts.conclusions) _ _ (at_actions facts.actions) (at_facts facts.conclusions))
  at_happening (sending m) = some_in_term (same_variable x) m
  at_happening (learning m way) = both (same_variable x) (in_term m) (way_variables way) _ _ (some_in_term (same_variable x) m) (at_way way)

  pub variable_there : (u : System) → has_variable u x ≡ system_has (sought.variable x) u
  variable_there u =
      all_parts (same_variable x) variables_read (sought.variable x) (λ i. refl) placed_term placed_terms happening_variables (λ (p : Pair). in_term p.0 ++ in_term p.1) at_happening
      (λ (p : Pair). both (same_variable x) (in_term p.0) (in_term p.1) _ _ (some_in_term (same_variable x) p.0) (some_in_term (same_variable x) p.1))
      u

-- ---- a public name

module _ (c : List ℕ) where
  placed_names : (ts : Terms Place) → list_any (is_it c) (each_term names_read ts) ≡ terms_name c ts
  placed_names none = refl
  placed_names (more t ts) = both (is_it c) (names_in_term t) (each_term names_read ts) (term_names c t) (terms_name c ts) (named_in_term c t) (placed_names ts)

  named_in_facts : (facts : Facts Variable) → list_any (is_it c) (facts_names facts) ≡ facts_have (sought.public_name c) facts
  named_in_facts facts =
      let in_fact : (fs : List (Fact Variable)) → list_any (is_it c) (flat_map (λ (f : Fact Variable). names_in_terms f.args) fs) ≡ list_any (fact_has (sought.public_name c)) fs =
      each (is_it c) (λ (f : Fact Variable). names_in_terms f.args) (fact_has (sought.public_name c)) (λ f. named_in_terms c f.args) in
      both (is_it c) _ _ _ _ (in_fact facts.premises)
      (both (is_it c) _ _ _ _ (each (is_it c) (λ (a : Action Variable). names_in_terms a.args) (action_has (sought.public_name c)) (λ a. named_in_terms c a.args) facts.actions)
      (in_fact facts.conclusions))

  named_in_way : (way : Way) → list_any (is_it c) (way_names way) ≡ way_has (sought.public_name c) way
  named_in_way anyhow = refl
  named_in_way public_name = refl
  named_in_way own_name = refl
  named_in_way constructed = refl
  named_in_way (chain_begun i k ts) = each (is_it c) names_in_term (term_has (sought.public_name c)) (named_in_term c) ts
  named_in_way (chain_done i k ts) = each (is_it c) names_in_term (term_has (sought.public_name c)) (named_in_term c) ts

  named_in_happening : (h : Happening) → list_any (is_it c) (happening_names h) ≡ happening_has (sought.public_name c) h
  named_in_happening (rule_step r facts) = named_in_facts facts
  named_in_happening (sending m) = named_in_term c m
  named_in_happening (learning m way) = both (is_it c) (names_in_term m) (way_names way) _ _ (named_in_term c m) (named_in_way way)

  name_there : (u : System) → list_any (is_it c) (names_of u) ≡ system_has (sought.public_name c) u
  name_there u =
      all_parts (is_it c) names_read (sought.public_name c) (λ i. refl) (named_in_term c) placed_names happening_names (λ (p : Pair). names_in_term p.0 ++ names_in_term p.1)
      named_in_happening
      (λ (p : Pair). both (is_it c) (names_in_term p.0) (names_in_term p.1) _ _ (named_in_term c p.0) (named_in_term c p.1))
      u

  -- it is one of these names, or stands in the system
  pub one_of_names : (names : List (List ℕ)) (u : System) → is_listed c (names ++ names_of u) ≡ (is_listed c names || system_has (sought.public_name c) u)
  one_of_names [] u = listed_any c (names_of u) ∙ name_there u
  one_of_names (d ∷ names) u = ap (λ (b : Bool). bytes_eq d c || b) (one_of_names names u) ∙ sym (or_assoc (bytes_eq d c) (is_listed c names) (system_has (sought.public_name c) u))
