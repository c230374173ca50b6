-- What a formula doesn't see of a trace: actions that it doesn't name, and entries without actions.
use Rattle.std.specs.Prelude.{◌≡◌, ◌⊎◌, ◌<◌, ℕ, zero, suc, if◌then◌else◌, List, [], ◌∷◌, ◌++◌}
use Rattle.sp_spec.specs.Lists.{is_listed}
use Rattle.sp_spec.specs.Rule.{Action}
use Rattle.sp_spec.specs.Execution.{Trace, with_entry}
use Rattle.sp_spec.specs.Guarded.{Time, free_time, bound_time, Binder, message, time, Atom, acts, same, same_time, before, last, Guarded, Guardeds, truth, falsity, holds, fails, all_of, one_of, some, every, no_more, and_then}

-- those whose symbols are among the names
abbrev pub only_actions : List (List ℕ) → List (Action ⊥) → List (Action ⊥)
only_actions names [] = []
only_actions names (action ∷ actions) = if is_listed action.symbol names then action ∷ only_actions names actions else only_actions names actions

-- the positions stay, though entries become empty
abbrev pub only : List (List ℕ) → Trace → Trace
only names [] = []
only names (entry ∷ trace) = only_actions names entry ∷ only names trace

abbrev pub without_empty : Trace → Trace
without_empty [] = []
without_empty (entry ∷ trace) = with_entry entry (without_empty trace)

-- what a formula that names these actions alone sees of a trace
abbrev pub shown : List (List ℕ) → Trace → Trace
shown names trace = without_empty (only names trace)

-- the symbols of a formula's actions
abbrev pub atom_names : Atom → List (List ℕ)
atom_names (acts action i) = action.symbol ∷ []
atom_names (same t u) = []
atom_names (same_time i j) = []
atom_names (before i j) = []
atom_names (last i) = []

abbrev pub guard_names : List Atom → List (List ℕ)
guard_names [] = []
guard_names (a ∷ atoms) = atom_names a ++ guard_names atoms

abbrev mutual
  pub action_names : Guarded → List (List ℕ)
  action_names truth = []
  action_names falsity = []
  action_names (holds a) = atom_names a
  action_names (fails a) = atom_names a
  action_names (all_of fs) = all_action_names fs
  action_names (one_of fs) = all_action_names fs
  action_names (some bs guard f) = guard_names guard ++ action_names f
  action_names (every bs guard f) = guard_names guard ++ action_names f

  pub all_action_names : Guardeds → List (List ℕ)
  all_action_names no_more = []
  all_action_names (and_then f fs) = action_names f ++ all_action_names fs

-- Within the reach of the binders: how many times are bound there, if n are outside; the place of the time that is n outside.
abbrev pub times_within : List Binder → ℕ → ℕ
times_within [] n = n
times_within (message sort ∷ bs) n = times_within bs n
times_within (time ∷ bs) n = times_within bs (suc n)

-- the time is one of the n that are bound there
abbrev pub IsBound : ℕ → Time → Type 0
IsBound n (free_time i) = ⊥
IsBound n (bound_time k) = k < n

-- each time of the atom is bound, and none is said to be the last
abbrev pub IsTimedAtom : ℕ → Atom → Type 0
IsTimedAtom n (acts action i) = IsBound n i
IsTimedAtom n (same t u) = Unit {0}
IsTimedAtom n (same_time i j) = IsBound n i × IsBound n j
IsTimedAtom n (before i j) = IsBound n i × IsBound n j
IsTimedAtom n (last i) = ⊥

abbrev pub AreTimedAtoms : ℕ → List Atom → Type 0
AreTimedAtoms n [] = Unit {0}
AreTimedAtoms n (a ∷ atoms) = IsTimedAtom n a × AreTimedAtoms n atoms

-- an action at the bound time of that place
abbrev pub IsActionAt : ℕ → Atom → Type 0
IsActionAt k (acts action (bound_time j)) = j ≡ k
IsActionAt k a = ⊥

abbrev pub HasActionAt : ℕ → List Atom → Type 0
HasActionAt k [] = ⊥
HasActionAt k (a ∷ atoms) = IsActionAt k a ⊎ HasActionAt k atoms

-- the guard has an action at each time that the binders bind
abbrev pub GuardsTimes : List Binder → List Atom → Type 0
GuardsTimes [] guard = Unit {0}
GuardsTimes (message sort ∷ bs) guard = GuardsTimes bs guard
GuardsTimes (time ∷ bs) guard = HasActionAt (times_within bs zero) guard × GuardsTimes bs guard

-- The formula's times are all bound, in it or among n outside it; each that it binds has an action in its guard; none is said to
-- be the last.
abbrev mutual
  pub IsTimed : ℕ → Guarded → Type 0
  IsTimed n truth = Unit {0}
  IsTimed n falsity = Unit {0}
  IsTimed n (holds a) = IsTimedAtom n a
  IsTimed n (fails a) = IsTimedAtom n a
  IsTimed n (all_of fs) = AreTimed n fs
  IsTimed n (one_of fs) = AreTimed n fs
  IsTimed n (some bs guard f) = GuardsTimes bs guard × AreTimedAtoms (times_within bs n) guard × IsTimed (times_within bs n) f
  IsTimed n (every bs guard f) = GuardsTimes bs guard × AreTimedAtoms (times_within bs n) guard × IsTimed (times_within bs n) f

  pub AreTimed : ℕ → Guardeds → Type 0
  AreTimed n no_more = Unit {0}
  AreTimed n (and_then f fs) = IsTimed n f × AreTimed n fs
