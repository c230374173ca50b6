-- Guarded formulas and their truth. Source: CSF 2012, "Guarded trace properties"; Schmidt's thesis, chapter 3. Negation stands at
-- atoms alone, and each quantifier has atoms as its guard.
use Rattle.std.specs.Prelude.{◌≡◌, ◌⊎◌, ◌<◌, ℕ, zero, suc, List, [], ◌∷◌, length}
use Rattle.sp_spec.specs.Lists.{Classically}
use Rattle.sp_spec.specs.Term.{Sort, Variable, Term, Ground, Values, valued}
use Rattle.sp_spec.specs.Signature.{Signature, IsValue}
use Rattle.sp_spec.specs.Equal.{Equal}
use Rattle.sp_spec.specs.Rule.{Action, action_at}
use Rattle.sp_spec.specs.Execution.{Trace}
use Rattle.sp_spec.specs.Truth.{Acts}

-- A variable of the system, or one that a quantifier binds: the innermost binder of a message has place 0, the next one outwards
-- place 1; times are counted apart from messages.
pub data Place : Type 0 where
  free : Variable → Place
  bound : ℕ → Place

pub data Time : Type 0 where
  free_time : ℕ → Time
  bound_time : ℕ → Time

pub data Binder : Type 0 where
  message : Sort → Binder
  time : Binder

pub data Atom : Type 0 where
  acts : Action Place → Time → Atom
  same : Term Place → Term Place → Atom
  same_time : Time → Time → Atom
  before : Time → Time → Atom
  last : Time → Atom

-- The guarded form of a formula writes a negated action as every without binders, with that action as guard and falsity as body.
mutual
  pub data Guarded : Type 0 where
    truth : Guarded
    falsity : Guarded
    holds : Atom → Guarded
    fails : Atom → Guarded
    all_of : Guardeds → Guarded
    one_of : Guardeds → Guarded
    some : List Binder → List Atom → Guarded → Guarded
    every : List Binder → List Atom → Guarded → Guarded

  pub data Guardeds : Type 0 where
    no_more : Guardeds
    and_then : Guarded → Guardeds → Guardeds

-- the parts of a conjunction or a disjunction, as a list, and of a list
abbrev pub parts_of : Guardeds → List Guarded
parts_of no_more = []
parts_of (and_then g gs) = g ∷ parts_of gs

abbrev pub guardeds_of : List Guarded → Guardeds
guardeds_of [] = no_more
guardeds_of (g ∷ gs) = and_then g (guardeds_of gs)

-- values of the system's variables and of what is bound
pub record Assignment : Type 0 where
  pub terms : Values
  pub times : ℕ → ℕ
  pub bound_terms : ℕ → Ground
  pub bound_times : ℕ → ℕ

-- one more binder, the innermost
abbrev pub pushed : {A : Type 0} → A → (ℕ → A) → ℕ → A
pushed a f zero = a
pushed a f (suc k) = f k

abbrev pub with_term : Ground → Assignment → Assignment
with_term t m = record { terms = m.terms; times = m.times; bound_terms = pushed t m.bound_terms; bound_times = m.bound_times }

abbrev pub with_time : ℕ → Assignment → Assignment
with_time p m = record { terms = m.terms; times = m.times; bound_terms = m.bound_terms; bound_times = pushed p m.bound_times }

abbrev pub place_in : Assignment → Place → Ground
place_in m (free x) = m.terms x
place_in m (bound k) = m.bound_terms k

abbrev pub term_in : Assignment → Term Place → Ground
term_in m t = valued (place_in m) t

abbrev pub action_in : Assignment → Action Place → Action ⊥
action_in m a = action_at (place_in m) a

abbrev pub time_in : Assignment → Time → ℕ
time_in m (free_time i) = m.times i
time_in m (bound_time k) = m.bound_times k

abbrev pub AtomHolds : Signature → Trace → Assignment → Atom → Type 0
AtomHolds signature trace m (acts a i) = Classically (Acts signature.equations trace (time_in m i) (action_in m a))
AtomHolds signature trace m (same t u) = Classically (Equal signature.equations (term_in m t) (term_in m u))
AtomHolds signature trace m (same_time i j) = Classically (time_in m i ≡ time_in m j)
AtomHolds signature trace m (before i j) = time_in m i < time_in m j
AtomHolds signature trace m (last i) = Classically (suc (time_in m i) ≡ length trace)

abbrev pub AtomsHold : Signature → Trace → Assignment → List Atom → Type 0
AtomsHold signature trace m [] = Unit {0}
AtomsHold signature trace m (a ∷ atoms) = AtomHolds signature trace m a × AtomsHold signature trace m atoms

-- for some values of the binders, and for all
abbrev pub SomeValues : Signature → ℕ → List Binder → (Assignment → Type 0) → Assignment → Type 0
SomeValues signature n [] P m = P m
SomeValues signature n (message sort ∷ bs) P m = Classically ((t : Ground) × IsValue signature sort t × SomeValues signature n bs P (with_term t m))
SomeValues signature n (time ∷ bs) P m = Classically ((p : ℕ) × (p < n) × SomeValues signature n bs P (with_time p m))

abbrev pub EachValues : Signature → ℕ → List Binder → (Assignment → Type 0) → Assignment → Type 0
EachValues signature n [] P m = P m
EachValues signature n (message sort ∷ bs) P m = (t : Ground) → IsValue signature sort t → EachValues signature n bs P (with_term t m)
EachValues signature n (time ∷ bs) P m = (p : ℕ) → p < n → EachValues signature n bs P (with_time p m)

abbrev mutual
  pub GuardedHolds : Signature → Trace → Assignment → Guarded → Type 0
  GuardedHolds signature trace m truth = Unit {0}
  GuardedHolds signature trace m falsity = ⊥
  GuardedHolds signature trace m (holds a) = AtomHolds signature trace m a
  GuardedHolds signature trace m (fails a) = AtomHolds signature trace m a → ⊥
  GuardedHolds signature trace m (all_of fs) = EachHolds signature trace m fs
  GuardedHolds signature trace m (one_of fs) = Classically (SomeHolds signature trace m fs)
  GuardedHolds signature trace m (some bs guard f) = SomeValues signature (length trace) bs (λ w. AtomsHold signature trace w guard × GuardedHolds signature trace w f) m
  GuardedHolds signature trace m (every bs guard f) = EachValues signature (length trace) bs (λ w. AtomsHold signature trace w guard → GuardedHolds signature trace w f) m

  pub EachHolds : Signature → Trace → Assignment → Guardeds → Type 0
  EachHolds signature trace m no_more = Unit {0}
  EachHolds signature trace m (and_then f fs) = GuardedHolds signature trace m f × EachHolds signature trace m fs

  pub SomeHolds : Signature → Trace → Assignment → Guardeds → Type 0
  SomeHolds signature trace m no_more = ⊥
  SomeHolds signature trace m (and_then f fs) = GuardedHolds signature trace m f ⊎ SomeHolds signature trace m fs
