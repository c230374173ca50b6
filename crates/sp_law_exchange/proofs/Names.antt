-- What is made of some names and variables is made of more.
use Rattle.std.proofs.Common.{◌≡◌, ◌<◌, ℕ, List, length}
use Rattle.sp_spec.specs.Lists.{Every}
use Rattle.sp_spec.specs.Term.{Variable, Term, var, constant, name, app, Terms, none, more, Name, public_name, fresh_name, Names, MadeOf, AllMadeOf}
use Rattle.sp_spec.specs.Rule.{Fact, Action, Facts, Rule, FactsMadeOf}
use Rattle.sp_spec.specs.Guarded.{Place, free, bound, Time, free_time, bound_time, Atom, acts, same, same_time, before, last, Guarded, Guardeds, truth, falsity, holds, fails, all_of, one_of, some, every, no_more, and_then}
use Rattle.sp_spec.proofs.Lists.{every_member, every_weaken}
use Rattle.sp_law_truth.proofs.Only.{is_among_member}
use Rattle.sp_spec_system.specs.System.{Way, anyhow, own_name, constructed, chain_begun, chain_done, Happening, rule_step, sending, learning, Event, System}
use Rattle.sp_spec_system.specs.System as system
use Rattle.sp_spec_system.specs.Numbered.{names_in, AtFree, AtFreeTime, InAtom, InFormula, InEach, InWay, InHappening, InEvent, IsNumbered}
use Rattle.sp_law_exchange.specs.Laws.{any_variable, any_time, SystemHasNames}
use Rattle.sp_law_exchange.specs.Renaming.{Renaming, kept_by}

module _ (N M : Names) (more_names : (a : Name) → N a → M a) where
  module _ {V : Type 0} (P Q : V → Type 0) (also : (x : V) → P x → Q x) where
    mutual
      pub term_names : (t : Term V) → MadeOf N P t → MadeOf M Q t
      term_names (var x) h = also x h
      term_names (constant c) h = more_names (public_name c) h
      term_names (name n) h = more_names (fresh_name n) h
      term_names (app f ts) h = all_term_names ts h

      pub all_term_names : (ts : Terms V) → AllMadeOf N P ts → AllMadeOf M Q ts
      all_term_names none h = tt
      all_term_names (more t ts) h = (term_names t h.0, all_term_names ts h.1)

    pub facts_names : (facts : Facts V) → FactsMadeOf N P facts → FactsMadeOf M Q facts
    facts_names facts h = record {
      premises = every_weaken _ _ (λ (f : Fact V). all_term_names f.args) facts.premises h.premises;
      actions = every_weaken _ _ (λ (a : Action V). all_term_names a.args) facts.actions h.actions;
      conclusions = every_weaken _ _ (λ (f : Fact V). all_term_names f.args) facts.conclusions h.conclusions;
    }

  module _ (P : Variable → Type 0) (Q : ℕ → Type 0) where
    any_free : (x : Place) → AtFree P x → AtFree any_variable x
    any_free (free x) h = tt
    any_free (bound k) h = tt

    any_free_time : (i : Time) → AtFreeTime Q i → AtFreeTime any_time i
    any_free_time (free_time i) h = tt
    any_free_time (bound_time k) h = tt

    term_at : (t : Term Place) → MadeOf N (AtFree P) t → MadeOf M (AtFree any_variable) t
    term_at t h = term_names (AtFree P) (AtFree any_variable) any_free t h

    atom_names : (a : Atom) → InAtom N P Q a → InAtom M any_variable any_time a
    atom_names (acts a i) h = (all_term_names (AtFree P) (AtFree any_variable) any_free a.args h.0, any_free_time i h.1)
    atom_names (same t u) h = (term_at t h.0, term_at u h.1)
    atom_names (same_time i j) h = (any_free_time i h.0, any_free_time j h.1)
    atom_names (before i j) h = (any_free_time i h.0, any_free_time j h.1)
    atom_names (last i) h = any_free_time i h

    guard_names : (guard : List Atom) → Every (InAtom N P Q) guard → Every (InAtom M any_variable any_time) guard
    guard_names guard h = every_weaken (InAtom N P Q) (InAtom M any_variable any_time) atom_names guard h

    mutual
      pub formula_names : (f : Guarded) → InFormula N P Q f → InFormula M any_variable any_time f
      formula_names truth h = tt
      formula_names falsity h = tt
      formula_names (holds a) h = atom_names a h
      formula_names (fails a) h = atom_names a h
      formula_names (all_of fs) h = each_formula_names fs h
      formula_names (one_of fs) h = each_formula_names fs h
      formula_names (some bs guard f) h = (guard_names guard h.0, formula_names f h.1)
      formula_names (every bs guard f) h = (guard_names guard h.0, formula_names f h.1)

      each_formula_names : (fs : Guardeds) → InEach N P Q fs → InEach M any_variable any_time fs
      each_formula_names no_more h = tt
      each_formula_names (and_then f fs) h = (formula_names f h.0, each_formula_names fs h.1)

    any_term : (t : Term Variable) → MadeOf N P t → MadeOf M any_variable t
    any_term t h = term_names P any_variable (λ x p. tt) t h

    chain_names : (ts : List (Term Variable)) → Every (MadeOf N P) ts → Every (MadeOf M any_variable) ts
    chain_names ts h = every_weaken (MadeOf N P) (MadeOf M any_variable) any_term ts h

    way_names : (way : Way) → InWay N P Q way → InWay M any_variable any_time way
    way_names (chain_begun i k ts) h = (tt, chain_names ts h.1)
    way_names (chain_done i k ts) h = (tt, chain_names ts h.1)
    way_names anyhow h = tt
    way_names system.public_name h = tt
    way_names own_name h = tt
    way_names constructed h = tt

    happening_names : (x : Happening) → InHappening N P Q x → InHappening M any_variable any_time x
    happening_names (rule_step r facts) h = facts_names P any_variable (λ x p. tt) facts h
    happening_names (sending m) h = any_term m h
    happening_names (learning m way) h = (any_term m h.0, way_names way h.1)

    pub event_names : (e : Event) → InEvent N P Q e → InEvent M any_variable any_time e
    event_names e h = (tt, happening_names e.happening h.1)

    pub pair_names : (p : Term Variable × Term Variable) → MadeOf N P p.0 × MadeOf N P p.1 → MadeOf M any_variable p.0 × MadeOf M any_variable p.1
    pair_names p h = (any_term p.0 h.0, any_term p.1 h.1)

module _ (r : Renaming) (listed : List (List ℕ)) (stay : Every (λ c. r.public c ≡ c) listed) where
  pub listed_kept : (a : Name) → names_in listed a → kept_by r a
  listed_kept (public_name c) h = every_member (λ (d : List ℕ). r.public d ≡ d) listed c (is_among_member c listed h) stay
  listed_kept (fresh_name n) h = absurd h

  pub listed_rules : (rules : List Rule) → Every (λ (rule : Rule). FactsMadeOf (names_in listed) (λ x. x.number < length rule.variables) rule.facts) rules
      → Every (λ (rule : Rule). FactsMadeOf (kept_by r) any_variable rule.facts) rules
  listed_rules rules h =
      every_weaken _ _ (λ (rule : Rule). facts_names (names_in listed) (kept_by r) listed_kept (λ (x : Variable). x.number < length rule.variables) any_variable (λ x p. tt) rule.facts) rules h

  pub listed_formula : (n : ℕ) (f : Guarded) → InFormula (names_in listed) (λ x. x.number < n) (λ i. i < n) f → InFormula (kept_by r) any_variable any_time f
  listed_formula n f h = formula_names (names_in listed) (kept_by r) listed_kept (λ x. x.number < n) (λ i. i < n) f h

  pub listed_system : (s : System) → IsNumbered (names_in listed) s → SystemHasNames (kept_by r) s
  listed_system s h =
      let P : Variable → Type 0 = λ x. x.number < s.next in
      let Q : ℕ → Type 0 = λ i. i < s.next in
      record {
        events = every_weaken (InEvent (names_in listed) P Q) (InEvent (kept_by r) any_variable any_time) (event_names (names_in listed) (kept_by r) listed_kept P Q) s.events h.events;
        formulas = every_weaken (InFormula (names_in listed) P Q) (InFormula (kept_by r) any_variable any_time) (listed_formula s.next) s.formulas h.formulas;
        spent = every_weaken (InFormula (names_in listed) P Q) (InFormula (kept_by r) any_variable any_time) (listed_formula s.next) s.spent h.spent;
        unequal = every_weaken (λ (p : Term Variable × Term Variable). MadeOf (names_in listed) P p.0 × MadeOf (names_in listed) P p.1)
            (λ (p : Term Variable × Term Variable). MadeOf (kept_by r) any_variable p.0 × MadeOf (kept_by r) any_variable p.1) (pair_names (names_in listed) (kept_by r) listed_kept P Q) s.unequal h.unequal;
      }
