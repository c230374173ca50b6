-- Last: a time that is said to be the last one, or not to be. Source: Tamarin manual, "Advanced features" (induction); Meier's thesis, "Trace induction"
-- (last atoms). The elementary move and its contradictions.
use Rattle.std.specs.Prelude.{ℕ, Bool, true, false, ◌==◌, ◌||◌, ◌&&◌, List, [], ◌∷◌, Option, Some, None, option_and_then}
use Rattle.sp_spec.specs.Guarded.{free_time, before, last, Guarded, holds, fails}
use Rattle.sp_spec_system.specs.System.{Event, System, with_last}
use Rattle.sp_spec_system.specs.Order.{is_before, begins_at}
use Rattle.sp_spec_system.specs.Formulas.{Found, spending, first_formula}
use Rattle.sp_spec_formula.specs.Equate.{equal_times, equated, equation_fails}

-- Last: this time is the last one; or it isn't, and comes before the one that is.
pub data Ending : Type 0 where
  is_last : ℕ → Ending
  before_last : ℕ → ℕ → Ending

-- what is said of the last time, where this one is said to be it, if any
abbrev pub ending_of : Option ℕ → Guarded → Option Ending
ending_of known (holds (last (free_time i))) = Some (is_last i)
ending_of (Some j) (fails (last (free_time i))) = Some (before_last i j)
ending_of known f = None

-- The first time that is said to be the last one is kept; any other is one with it. None where the events at them can't be one.
abbrev pub made_last : Option ℕ → ℕ → System → Option System
made_last None i s = Some (with_last s (Some i))
made_last (Some j) i s = equated s (equal_times i j)

abbrev pub ended_by : System → Found Ending → Ending → Option System
ended_by s r (is_last i) = made_last s.last i (spending s r [])
ended_by s r (before_last i j) = Some (spending s r (holds (before (free_time i) (free_time j)) ∷ []))

abbrev pub sets_last : System → Option System
sets_last s = option_and_then (λ r. ended_by s r r.picked) (first_formula (ending_of s.last) s.formulas)

-- Failing merge: the events at two times that are both said to be the last can't be one.
abbrev pub last_fails : System → Option ℕ → Guarded → Bool
last_fails s (Some j) (holds (last (free_time i))) = equation_fails s (Some (equal_times i j))
last_fails s known f = false

abbrev pub fails_to_last : System → List Guarded → Bool
fails_to_last s [] = false
fails_to_last s (f ∷ fs) = last_fails s s.last f || fails_to_last s fs

-- Time after the last: an order pair begins at it.
abbrev pub has_later : Option ℕ → List (ℕ × ℕ) → Bool
has_later None order = false
has_later (Some i) order = begins_at i order

-- Refuted literal: the last time is said not to be it.
abbrev pub is_last_refuted : Option ℕ → Guarded → Bool
is_last_refuted (Some j) (fails (last (free_time i))) = i == j
is_last_refuted known f = false

abbrev pub has_last_refuted : Option ℕ → List Guarded → Bool
has_last_refuted known [] = false
has_last_refuted known (f ∷ fs) = is_last_refuted known f || has_last_refuted known fs

-- Closed, and not the last: nothing happens but events that are before this time or at it, and it is said not to be the last.
abbrev pub all_by : List (ℕ × ℕ) → ℕ → List Event → Bool
all_by order i [] = true
all_by order i (e ∷ es) = ((e.time == i) || is_before order e.time i) && all_by order i es

abbrev pub is_behind_all : System → Guarded → Bool
is_behind_all s (fails (last (free_time i))) = all_by s.order i s.events
is_behind_all s f = false

abbrev pub some_behind_all : System → List Guarded → Bool
some_behind_all s [] = false
some_behind_all s (f ∷ fs) = is_behind_all s f || some_behind_all s fs

abbrev pub has_unlast : System → Bool
has_unlast s = s.closed && some_behind_all s s.formulas
