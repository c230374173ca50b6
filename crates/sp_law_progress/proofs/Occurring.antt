-- What stands anywhere in a numbered system: its variables and times are below the next number, and its public names are among those that may stand there.
use Rattle.std.proofs.Common.{◌≡◌, ◌<◌, ℕ, Bool, true, List, [], ◌∷◌, ◌++◌, Option, Some, None, IfSome, flat_map, ⊎_elim, sym, subst}
use Rattle.std.proofs.lemmas.Bool.{or_cases}
use Rattle.std.specs.List.{list_any}
use Rattle.sp_spec.specs.Lists.{Every}
use Rattle.sp_spec.specs.Term.{Names, Variable, Term, var, constant, name, app, Terms, none, more, in_term, in_terms, MadeOf, AllMadeOf}
use Rattle.sp_spec.specs.Term as term
use Rattle.sp_spec.specs.Rule.{Fact, Action, Facts, in_facts, in_actions, occurrences, FactsMadeOf}
use Rattle.sp_spec.specs.Guarded.{Place, free, bound, Time, free_time, bound_time, Atom, acts, same, same_time, before, last, Guarded, truth, falsity, holds, fails, all_of, one_of, some, every, Guardeds, no_more, and_then}
use Rattle.sp_spec.proofs.Lists.{every_append}
use Rattle.sp_spec_system.specs.System.{Way, anyhow, public_name, own_name, constructed, chain_begun, chain_done, Happening, rule_step, sending, learning, Event, Link, System}
use Rattle.sp_spec_system.specs.Numbered.{AtFree, AtFreeTime, InAtom, InFormula, InEach, InWay, InHappening, InEvent, IsNumbered}
use Rattle.sp_spec_system.specs.Occurring.{Reading, each_term, in_atom, in_atoms, in_formula, in_each, time_of, times_read, happening_times, event_times, last_times, times_in, variable_of, variables_read, way_variables, happening_variables, variables_in, names_in_term, names_in_terms, names_read, facts_names, way_names, happening_names, names_of}
use Rattle.sp_spec.specs.Same.{same_variable}
use Rattle.sp_spec.proofs.Same.{same_variable_decides}
use Rattle.sp_spec_formula.specs.Top.{has_variable}
use Rattle.sp_law_system.proofs.Solutions.{Under, TimeUnder}

-- ---- lists

-- what holds of each list holds of their elements, one list after the other
pub every_flat : {X A : Type 0} (P : X → Type 0) (R : A → Type 0) (f : X → List A) → ((x : X) → P x → Every R (f x)) → (xs : List X) → Every P xs → Every R (flat_map f xs)
every_flat P R f h [] k = tt
every_flat P R f h (x ∷ xs) k = every_append R (f x) (flat_map f xs) (h x k.0) (every_flat P R f h xs k.1)

-- an element that passes the test
pub some_passes : {A : Type 0} (test : A → Bool) (R : A → Type 0) (xs : List A) → list_any test xs ≡ true → Every R xs → (x : A) × (test x ≡ true) × R x
some_passes test R [] e h = absurd cc
some_passes test R (x ∷ xs) e h = ⊎_elim (λ k. (x, k, h.0)) (λ k. some_passes test R xs k h.1) (or_cases (test x) (list_any test xs) e)

-- ---- formulas

module _ {A : Type 0} (N : Names) (P : Variable → Type 0) (Q : ℕ → Type 0) (R : A → Type 0) (r : Reading A)
    (at_term : (t : Term Place) → MadeOf N (AtFree P) t → Every R (r.of_term t)) (at_time : (i : Time) → AtFreeTime Q i → Every R (r.of_time i)) where
  each_read : (ts : Terms Place) → AllMadeOf N (AtFree P) ts → Every R (each_term r ts)
  each_read none h = tt
  each_read (more t ts) h = every_append R (r.of_term t) (each_term r ts) (at_term t h.0) (each_read ts h.1)

  atom_read : (a : Atom) → InAtom N P Q a → Every R (in_atom r a)
  atom_read (acts a i) h = every_append R (each_term r a.args) (r.of_time i) (each_read a.args h.0) (at_time i h.1)
  atom_read (same t u) h = every_append R (r.of_term t) (r.of_term u) (at_term t h.0) (at_term u h.1)
  atom_read (same_time i j) h = every_append R (r.of_time i) (r.of_time j) (at_time i h.0) (at_time j h.1)
  atom_read (before i j) h = every_append R (r.of_time i) (r.of_time j) (at_time i h.0) (at_time j h.1)
  atom_read (last i) h = at_time i h

  mutual
    formula_read : (f : Guarded) → InFormula N P Q f → Every R (in_formula r f)
    formula_read truth h = tt
    formula_read falsity h = tt
    formula_read (holds a) h = atom_read a h
    formula_read (fails a) h = atom_read a h
    formula_read (all_of fs) h = formulas_read fs h
    formula_read (one_of fs) h = formulas_read fs h
    formula_read (some bs guard f) h =
        every_append R (in_atoms r guard) (in_formula r f) (every_flat (InAtom N P Q) R (in_atom r) atom_read guard h.0) (formula_read f h.1)
    formula_read (every bs guard f) h =
        every_append R (in_atoms r guard) (in_formula r f) (every_flat (InAtom N P Q) R (in_atom r) atom_read guard h.0) (formula_read f h.1)

    formulas_read : (fs : Guardeds) → InEach N P Q fs → Every R (in_each r fs)
    formulas_read no_more h = tt
    formulas_read (and_then f fs) h = every_append R (in_formula r f) (in_each r fs) (formula_read f h.0) (formulas_read fs h.1)

  -- what is read of formulas
  pub all_read : (fs : List Guarded) → Every (InFormula N P Q) fs → Every R (flat_map (in_formula r) fs)
  all_read fs h = every_flat (InFormula N P Q) R (in_formula r) formula_read fs h

-- ---- times

module _ (N : Names) (P : Variable → Type 0) (Q : ℕ → Type 0) where
  time_read : (i : Time) → AtFreeTime Q i → Every Q (time_of i)
  time_read (free_time i) h = (h, tt)
  time_read (bound_time k) h = tt

  event_read : (e : Event) → InEvent N P Q e → Every Q (event_times e)
  event_read e h = (h.0, at e.happening h.1)
    where
      at : (h : Happening) → InHappening N P Q h → Every Q (happening_times h)
      at (rule_step r facts) k = tt
      at (sending m) k = tt
      at (learning m anyhow) k = tt
      at (learning m public_name) k = tt
      at (learning m own_name) k = tt
      at (learning m constructed) k = tt
      at (learning m (chain_begun i c ts)) k = (k.1.0, tt)
      at (learning m (chain_done i c ts)) k = (k.1.0, tt)

  last_read : (o : Option ℕ) → IfSome o Q → Every Q (last_times o)
  last_read None h = tt
  last_read (Some i) h = (h, tt)

-- The times of a numbered system are below its next number,
pub times_under : {N : Names} (s : System) → IsNumbered N s → Every (TimeUnder s.next) (times_in s)
times_under {N} s n =
    let P = Under s.next in
    let Q = TimeUnder s.next in
    let formulas : (fs : List Guarded) → Every (InFormula N P Q) fs → Every Q (flat_map (in_formula times_read) fs) = all_read N P Q Q times_read (λ t h. tt) (time_read N P Q) in
    let ends : (l : Link) → (l.from < s.next) × (l.to < s.next) → Every Q (l.from ∷ l.to ∷ []) = λ l h. (h.0, (h.1, tt)) in
    let both : (p : ℕ × ℕ) → (p.0 < s.next) × (p.1 < s.next) → Every Q (p.0 ∷ p.1 ∷ []) = λ p h. (h.0, (h.1, tt)) in
    every_append Q (flat_map event_times s.events) _ (every_flat (InEvent N P Q) Q event_times (event_read N P Q) s.events n.events)
    (every_append Q (flat_map (in_formula times_read) s.formulas) _ (formulas s.formulas n.formulas)
    (every_append Q (flat_map (in_formula times_read) s.spent) _ (formulas s.spent n.spent)
    (every_append Q (flat_map (λ (l : Link). l.from ∷ l.to ∷ []) s.links) _ (every_flat _ Q (λ (l : Link). l.from ∷ l.to ∷ []) ends s.links n.links)
    (every_append Q (flat_map (λ (p : ℕ × ℕ). p.0 ∷ p.1 ∷ []) s.order) (last_times s.last) (every_flat _ Q (λ (p : ℕ × ℕ). p.0 ∷ p.1 ∷ []) both s.order n.order)
    (last_read N P Q s.last n.last)))))

-- ---- variables

mutual
  variables_made : (N : Names) {V : Type 0} (P : V → Type 0) (t : Term V) → MadeOf N P t → Every P (in_term t)
  variables_made N P (var x) h = (h, tt)
  variables_made N P (constant c) h = tt
  variables_made N P (name k) h = tt
  variables_made N P (app f ts) h = all_variables_made N P ts h

  all_variables_made : (N : Names) {V : Type 0} (P : V → Type 0) (ts : Terms V) → AllMadeOf N P ts → Every P (in_terms ts)
  all_variables_made N P none h = tt
  all_variables_made N P (more t ts) h = every_append P (in_term t) (in_terms ts) (variables_made N P t h.0) (all_variables_made N P ts h.1)

module _ (N : Names) (P : Variable → Type 0) (Q : ℕ → Type 0) where
  place_read : (x : Place) → AtFree P x → Every P (variable_of x)
  place_read (free x) h = (h, tt)
  place_read (bound k) h = tt

  term_read : (t : Term Place) → MadeOf N (AtFree P) t → Every P (flat_map variable_of (in_term t))
  term_read t h = every_flat (AtFree P) P variable_of place_read (in_term t) (variables_made N (AtFree P) t h)

  facts_variables : (fs : List (Fact Variable)) → Every (λ (f : Fact Variable). AllMadeOf N P f.args) fs → Every P (in_facts fs)
  facts_variables [] h = tt
  facts_variables (f ∷ fs) h = every_append P (in_terms f.args) (in_facts fs) (all_variables_made N P f.args h.0) (facts_variables fs h.1)

  actions_variables : (fs : List (Action Variable)) → Every (λ (f : Action Variable). AllMadeOf N P f.args) fs → Every P (in_actions fs)
  actions_variables [] h = tt
  actions_variables (f ∷ fs) h = every_append P (in_terms f.args) (in_actions fs) (all_variables_made N P f.args h.0) (actions_variables fs h.1)

  step_variables : (facts : Facts Variable) → FactsMadeOf N P facts → Every P (occurrences facts)
  step_variables facts h =
      every_append P (in_facts facts.premises) _ (facts_variables facts.premises h.premises)
      (every_append P (in_actions facts.actions) _ (actions_variables facts.actions h.actions) (facts_variables facts.conclusions h.conclusions))

  way_read : (way : Way) → InWay N P Q way → Every P (way_variables way)
  way_read anyhow h = tt
  way_read public_name h = tt
  way_read own_name h = tt
  way_read constructed h = tt
  way_read (chain_begun i k ts) h = every_flat (MadeOf N P) P in_term (variables_made N P) ts h.1
  way_read (chain_done i k ts) h = every_flat (MadeOf N P) P in_term (variables_made N P) ts h.1

  happening_read : (h : Happening) → InHappening N P Q h → Every P (happening_variables h)
  happening_read (rule_step r facts) h = step_variables facts h
  happening_read (sending m) h = variables_made N P m h
  happening_read (learning m way) h = every_append P (in_term m) (way_variables way) (variables_made N P m h.0) (way_read way h.1)

-- and so are its variables.
pub variables_under : {N : Names} (s : System) → IsNumbered N s → Every (Under s.next) (variables_in s)
variables_under {N} s n =
    let P = Under s.next in
    let Q = TimeUnder s.next in
    let formulas : (fs : List Guarded) → Every (InFormula N P Q) fs → Every P (flat_map (in_formula variables_read) fs) = all_read N P Q P variables_read (term_read N P Q) (λ i h. tt) in
    let pair_in : (p : Term Variable × Term Variable) → MadeOf N P p.0 × MadeOf N P p.1 → Every P (in_term p.0 ++ in_term p.1) =
    λ p h. every_append P (in_term p.0) (in_term p.1) (variables_made N P p.0 h.0) (variables_made N P p.1 h.1) in
    every_append P (flat_map (λ (e : Event). happening_variables e.happening) s.events) _
    (every_flat (InEvent N P Q) P (λ (e : Event). happening_variables e.happening) (λ e h. happening_read N P Q e.happening h.1) s.events n.events)
    (every_append P (flat_map (in_formula variables_read) s.formulas) _ (formulas s.formulas n.formulas)
    (every_append P (flat_map (in_formula variables_read) s.spent) _ (formulas s.spent n.spent)
    (every_flat _ P (λ (p : Term Variable × Term Variable). in_term p.0 ++ in_term p.1) pair_in s.unequal n.unequal)))

-- so one that stands there is below its next number
pub variable_under : {N : Names} (s : System) → IsNumbered N s → (x : Variable) → has_variable s x ≡ true → Under s.next x
variable_under s n x e =
    let r = some_passes (same_variable x) (Under s.next) (variables_in s) e (variables_under s n) in
    subst (Under s.next) (sym ((same_variable_decides x r.0).0 r.1)) r.2

-- ---- public names

mutual
  names_made : (N : Names) (R : List ℕ → Type 0) → ((c : List ℕ) → N (term.public_name c) → R c) → {V : Type 0} (P : V → Type 0) (t : Term V) → MadeOf N P t → Every R (names_in_term t)
  names_made N R k P (var x) h = tt
  names_made N R k P (constant c) h = (k c h, tt)
  names_made N R k P (name n) h = tt
  names_made N R k P (app f ts) h = all_names_made N R k P ts h

  all_names_made : (N : Names) (R : List ℕ → Type 0) → ((c : List ℕ) → N (term.public_name c) → R c) → {V : Type 0} (P : V → Type 0) (ts : Terms V) → AllMadeOf N P ts → Every R (names_in_terms ts)
  all_names_made N R k P none h = tt
  all_names_made N R k P (more t ts) h = every_append R (names_in_term t) (names_in_terms ts) (names_made N R k P t h.0) (all_names_made N R k P ts h.1)

module _ (N : Names) (R : List ℕ → Type 0) (k : (c : List ℕ) → N (term.public_name c) → R c) (P : Variable → Type 0) (Q : ℕ → Type 0) where
  step_names : (facts : Facts Variable) → FactsMadeOf N P facts → Every R (facts_names facts)
  step_names facts h =
      let of_fact : (f : Fact Variable) → AllMadeOf N P f.args → Every R (names_in_terms f.args) = λ f u. all_names_made N R k P f.args u in
      let of_action : (a : Action Variable) → AllMadeOf N P a.args → Every R (names_in_terms a.args) = λ a u. all_names_made N R k P a.args u in
      every_append R (flat_map (λ (f : Fact Variable). names_in_terms f.args) facts.premises) _ (every_flat _ R (λ (f : Fact Variable). names_in_terms f.args) of_fact facts.premises h.premises)
      (every_append R (flat_map (λ (a : Action Variable). names_in_terms a.args) facts.actions) _ (every_flat _ R (λ (a : Action Variable). names_in_terms a.args) of_action facts.actions h.actions)
      (every_flat _ R (λ (f : Fact Variable). names_in_terms f.args) of_fact facts.conclusions h.conclusions))

  chain_names : (way : Way) → InWay N P Q way → Every R (way_names way)
  chain_names anyhow h = tt
  chain_names public_name h = tt
  chain_names own_name h = tt
  chain_names constructed h = tt
  chain_names (chain_begun i c ts) h = every_flat (MadeOf N P) R names_in_term (names_made N R k P) ts h.1
  chain_names (chain_done i c ts) h = every_flat (MadeOf N P) R names_in_term (names_made N R k P) ts h.1

  event_names : (h : Happening) → InHappening N P Q h → Every R (happening_names h)
  event_names (rule_step r facts) h = step_names facts h
  event_names (sending m) h = names_made N R k P m h
  event_names (learning m way) h = every_append R (names_in_term m) (way_names way) (names_made N R k P m h.0) (chain_names way h.1)

-- Its public names are such as may stand there.
pub names_among : (N : Names) (R : List ℕ → Type 0) → ((c : List ℕ) → N (term.public_name c) → R c) → (s : System) → IsNumbered N s → Every R (names_of s)
names_among N R k s n =
    let P = Under s.next in
    let Q = TimeUnder s.next in
    let formulas : (fs : List Guarded) → Every (InFormula N P Q) fs → Every R (flat_map (in_formula names_read) fs) = all_read N P Q R names_read (names_made N R k (AtFree P)) (λ i h. tt) in
    let pair_in : (p : Term Variable × Term Variable) → MadeOf N P p.0 × MadeOf N P p.1 → Every R (names_in_term p.0 ++ names_in_term p.1) =
    λ p h. every_append R (names_in_term p.0) (names_in_term p.1) (names_made N R k P p.0 h.0) (names_made N R k P p.1 h.1) in
    every_append R (flat_map (λ (e : Event). happening_names e.happening) s.events) _
    (every_flat (InEvent N P Q) R (λ (e : Event). happening_names e.happening) (λ e h. event_names N R k P Q e.happening h.1) s.events n.events)
    (every_append R (flat_map (in_formula names_read) s.formulas) _ (formulas s.formulas n.formulas)
    (every_append R (flat_map (in_formula names_read) s.spent) _ (formulas s.spent n.spent)
    (every_flat _ R (λ (p : Term Variable × Term Variable). names_in_term p.0 ++ names_in_term p.1) pair_in s.unequal n.unequal)))
