-- Systems whose numbers are below their next one: what is new gets a number that nothing uses.
use Rattle.std.specs.Prelude.{ℕ, true, IfSome, List, map, ◌≡◌, ◌<◌}
use Rattle.sp_spec.specs.Term.{Names, public_name, fresh_name, Variable, MadeOf, AllMadeOf, Term}
use Rattle.sp_spec.specs.Guarded.{Place, free, bound, Time, free_time, bound_time, Atom, acts, same, same_time, before, last, Guarded, truth, falsity, holds, fails, all_of, one_of, some, every, Guardeds, no_more, and_then}
use Rattle.sp_spec.specs.Lists.{Every, Distinct, is_listed}
use Rattle.sp_spec.specs.Rule.{FactsMadeOf}
use Rattle.sp_spec_system.specs.System.{Way, chain_begun, chain_done, Happening, rule_step, sending, learning, Event, Link, System}

-- one of the system, and of each time
abbrev pub AtFree : (Variable → Type 0) → Place → Type 0
AtFree P (free x) = P x
AtFree P (bound k) = Unit {0}

abbrev pub AtFreeTime : (ℕ → Type 0) → Time → Type 0
AtFreeTime Q (free_time i) = Q i
AtFreeTime Q (bound_time k) = Unit {0}

abbrev pub InAtom : Names → (Variable → Type 0) → (ℕ → Type 0) → Atom → Type 0
InAtom N P Q (acts a i) = AllMadeOf N (AtFree P) a.args × AtFreeTime Q i
InAtom N P Q (same t u) = MadeOf N (AtFree P) t × MadeOf N (AtFree P) u
InAtom N P Q (same_time i j) = AtFreeTime Q i × AtFreeTime Q j
InAtom N P Q (before i j) = AtFreeTime Q i × AtFreeTime Q j
InAtom N P Q (last i) = AtFreeTime Q i

abbrev mutual
  pub InFormula : Names → (Variable → Type 0) → (ℕ → Type 0) → Guarded → Type 0
  InFormula N P Q truth = Unit {0}
  InFormula N P Q falsity = Unit {0}
  InFormula N P Q (holds a) = InAtom N P Q a
  InFormula N P Q (fails a) = InAtom N P Q a
  InFormula N P Q (all_of fs) = InEach N P Q fs
  InFormula N P Q (one_of fs) = InEach N P Q fs
  InFormula N P Q (some bs guard f) = Every (InAtom N P Q) guard × InFormula N P Q f
  InFormula N P Q (every bs guard f) = Every (InAtom N P Q) guard × InFormula N P Q f

  pub InEach : Names → (Variable → Type 0) → (ℕ → Type 0) → Guardeds → Type 0
  InEach N P Q no_more = Unit {0}
  InEach N P Q (and_then f fs) = InFormula N P Q f × InEach N P Q fs

-- the messages of a chain are made of such names and of such variables, and its time is such a one
abbrev pub InWay : Names → (Variable → Type 0) → (ℕ → Type 0) → Way → Type 0
InWay N P Q (chain_begun i k ts) = Q i × Every (MadeOf N P) ts
InWay N P Q (chain_done i k ts) = Q i × Every (MadeOf N P) ts
InWay N P Q way = Unit {0}

-- so it is with what happens
abbrev pub InHappening : Names → (Variable → Type 0) → (ℕ → Type 0) → Happening → Type 0
InHappening N P Q (rule_step r facts) = FactsMadeOf N P facts
InHappening N P Q (sending m) = MadeOf N P m
InHappening N P Q (learning m way) = MadeOf N P m × InWay N P Q way

abbrev pub InEvent : Names → (Variable → Type 0) → (ℕ → Type 0) → Event → Type 0
InEvent N P Q e = Q e.time × InHappening N P Q e.happening

-- the names that may stand in a system: these public ones, and no fresh one
abbrev pub names_in : List (List ℕ) → Names
names_in listed (public_name c) = is_listed c listed ≡ true
names_in listed (fresh_name n) = ⊥

-- no two events have one time
abbrev pub HappenOnce : List Event → Type 0
HappenOnce events = Distinct (map (λ (e : Event). e.time) events)

-- Each number that stands in the system is below the next one, and each name is one of these.
pub record IsNumbered (N : Names) (s : System) : Type 0 where
  pub events : Every (InEvent N (λ x. x.number < s.next) (λ i. i < s.next)) s.events
  pub formulas : Every (InFormula N (λ x. x.number < s.next) (λ i. i < s.next)) s.formulas
  pub spent : Every (InFormula N (λ x. x.number < s.next) (λ i. i < s.next)) s.spent
  pub unequal : Every (λ (p : Term Variable × Term Variable). MadeOf N (λ x. x.number < s.next) p.0 × MadeOf N (λ x. x.number < s.next) p.1) s.unequal
  pub links : Every (λ (l : Link). (l.from < s.next) × (l.to < s.next)) s.links
  pub order : Every (λ (p : ℕ × ℕ). (p.0 < s.next) × (p.1 < s.next)) s.order
  pub last : IfSome s.last (λ i. i < s.next)
