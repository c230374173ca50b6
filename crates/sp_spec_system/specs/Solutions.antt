-- The solutions of a system: logs, with values for its variables. Source: CSF 2012, "Constraint solving" (models of constraint systems);
-- Schmidt's thesis, chapter 3.
use Rattle.std.specs.Prelude.{ℕ, suc, true, Option, IfSome, [], List, ◌<◌, ◌∷◌, ◌++◌, length, map, ◌≡◌}
use Rattle.sp_spec.specs.Term.{Values, constant, Ground, Grounds, Variable, Term, valued}
use Rattle.sp_spec.specs.Guarded.{Assignment, Binder, message, time, with_term, with_time, Atom, acts, same, same_time, before, last, time_in, term_in, action_in, Guarded, truth, falsity, holds, fails, all_of, one_of, some, every, Guardeds, no_more, and_then, GuardedHolds}
use Rattle.sp_spec.specs.Lists.{AtPosition, AtPlace, Every, Member}
use Rattle.sp_spec.specs.Rule.{facts_at, Facts}
use Rattle.sp_spec.specs.Log.{Log, How, step, send, learn, Source, conclusion, log_trace}
use Rattle.sp_spec.specs.Log as log
use Rattle.sp_spec_system.specs.System.{Way, anyhow, public_name, own_name, constructed, chain_begun, chain_done, Happening, rule_step, sending, learning, Event, Link, System}
use Rattle.sp_spec.specs.Signature.{Signature, IsOver, AreOver, IsValue, IsValuation}
use Rattle.sp_spec.specs.Equal.{IsNormal, AreNormal}
use Rattle.sp_spec.specs.Theory.{Theory, signature_of}

pub record Valuation : Type 0 where
  pub terms : Values
  pub times : ℕ → ℕ

-- nothing is bound outside a formula
abbrev pub assignment : Valuation → Assignment
assignment v = record { terms = v.terms; times = v.times; bound_terms = λ k. constant []; bound_times = λ k. k }

-- something was passed: a chain begins with what some conclusion puts out
abbrev pub Begins : {A : Type 0} → List A → Type 0
Begins [] = ⊥
Begins (t ∷ ts) = Unit {0}

-- how an entry learns is as the way says, under the values
abbrev pub IsWayOf : Valuation → Way → How → Type 0
IsWayOf v anyhow how = Unit {0}
IsWayOf v public_name how = how ≡ log.public_name
IsWayOf v own_name how = how ≡ log.own_name
IsWayOf v constructed how = how ≡ log.constructed
IsWayOf v (chain_begun i k ts) how = (others : List Ground) × (how ≡ log.by_chain (v.times i) k (map (valued v.terms) ts ++ others)) × Begins ts
IsWayOf v (chain_done i k ts) how = how ≡ log.by_chain (v.times i) k (map (valued v.terms) ts)

-- the entry of the log at the event's time is what happens there
abbrev pub HappensAt : Log → ℕ → Valuation → Happening → Type 0
HappensAt log p v (rule_step r facts) = (sources : List Source) × AtPosition log p (step r (facts_at v.terms facts) sources)
HappensAt log p v (sending m) = AtPosition log p (send (valued v.terms m))
HappensAt log p v (learning m way) = (how : How) × AtPosition log p (learn (valued v.terms m) how) × IsWayOf v way how

abbrev pub HappensIn : Log → Valuation → Event → Type 0
HappensIn log v e = HappensAt log (v.times e.time) v e.happening

-- the entry of the log at the later time names as the source of that premise that conclusion of the entry at the earlier one
abbrev pub LinkHolds : Log → Valuation → Link → Type 0
LinkHolds log v l =
    (r : List ℕ) × (facts : Facts ⊥) × (sources : List Source) × AtPosition log (v.times l.to) (step r facts sources)
    × AtPlace sources l.premise (conclusion (v.times l.from) l.conclusion)

-- for all values of the binders, normal ones and positions
abbrev pub EachNormal : Signature → ℕ → List Binder → (Assignment → Type 0) → Assignment → Type 0
EachNormal signature n [] P m = P m
EachNormal signature n (message sort ∷ bs) P m = (t : Ground) → IsValue signature sort t → IsNormal signature.equations t → EachNormal signature n bs P (with_term t m)
EachNormal signature n (time ∷ bs) P m = (p : ℕ) → p < n → EachNormal signature n bs P (with_time p m)

-- the value is normal, and over the signature's symbols
abbrev pub IsSettled : Signature → Ground → Type 0
IsSettled signature t = IsNormal signature.equations t × IsOver signature.symbols t

abbrev pub AreSettled : Signature → Grounds → Type 0
AreSettled signature ts = AreNormal signature.equations ts × AreOver signature.symbols ts

-- the atom's terms have such values, and its times are positions of a log of n entries
abbrev pub AtomSettled : Signature → ℕ → Assignment → Atom → Type 0
AtomSettled signature n m (acts a i) = AreSettled signature (action_in m a).args × (time_in m i < n)
AtomSettled signature n m (same t u) = IsSettled signature (term_in m t) × IsSettled signature (term_in m u)
AtomSettled signature n m (same_time i j) = (time_in m i < n) × (time_in m j < n)
AtomSettled signature n m (before i j) = (time_in m i < n) × (time_in m j < n)
AtomSettled signature n m (last i) = time_in m i < n

-- so it is in each atom of the formula, whatever normal values of their sorts the bound variables have
abbrev mutual
  pub Settled : Signature → ℕ → Assignment → Guarded → Type 0
  Settled signature n m truth = Unit {0}
  Settled signature n m falsity = Unit {0}
  Settled signature n m (holds a) = AtomSettled signature n m a
  Settled signature n m (fails a) = AtomSettled signature n m a
  Settled signature n m (all_of fs) = EachSettled signature n m fs
  Settled signature n m (one_of fs) = EachSettled signature n m fs
  Settled signature n m (some bs guard f) = EachNormal signature n bs (λ w. Every (AtomSettled signature n w) guard × Settled signature n w f) m
  Settled signature n m (every bs guard f) = EachNormal signature n bs (λ w. Every (AtomSettled signature n w) guard × Settled signature n w f) m

  pub EachSettled : Signature → ℕ → Assignment → Guardeds → Type 0
  EachSettled signature n m no_more = Unit {0}
  EachSettled signature n m (and_then f fs) = Settled signature n m f × EachSettled signature n m fs

-- the formula is true over the log's trace
abbrev pub FormulaHolds : Theory → Log → Valuation → Guarded → Type 0
FormulaHolds theory log v f =
    GuardedHolds (signature_of theory) (log_trace log) (assignment v) f × Settled (signature_of theory) (length log) (assignment v) f

-- two terms that have different values, both normal
abbrev pub AreUnequal : Theory → Valuation → Term Variable × Term Variable → Type 0
AreUnequal theory v p =
    (valued v.terms p.0 ≡ valued v.terms p.1 → ⊥)
    × IsNormal (signature_of theory).equations (valued v.terms p.0) × IsNormal (signature_of theory).equations (valued v.terms p.1)

-- the first time has the smaller position, and both are positions of the log
abbrev pub IsBefore : Log → Valuation → ℕ × ℕ → Type 0
IsBefore log v p = (v.times p.0 < v.times p.1) × (v.times p.1 < length log)

-- the time, if one is said to be the last, has the position of the log's newest entry
abbrev pub IsLast : Log → Valuation → Option ℕ → Type 0
IsLast log v known = IfSome known (λ i. suc (v.times i) ≡ length log)

-- each position of the log is that of one of these events
abbrev pub AreAll : Log → Valuation → List Event → Type 0
AreAll log v events = (p : ℕ) → p < length log → (e : Event) × Member e events × (v.times e.time ≡ p)

-- The log, with values for the system's variables, is a solution of the system.
pub record Solves (theory : Theory) (log : Log) (v : Valuation) (s : System) : Type 0 where
  pub sorts : IsValuation (signature_of theory) v.terms
  pub normal : (x : Variable) → IsNormal (signature_of theory).equations (v.terms x)
  pub events : Every (HappensIn log v) s.events
  pub formulas : Every (FormulaHolds theory log v) s.formulas
  pub spent : Every (FormulaHolds theory log v) s.spent
  pub unequal : Every (AreUnequal theory v) s.unequal
  pub links : Every (LinkHolds log v) s.links
  pub order : Every (IsBefore log v) s.order
  pub last : IsLast log v s.last
  pub closed : s.closed ≡ true → AreAll log v s.events
