-- Formulas whose bound messages are each in the reach of a binder. Source: CSF 2012, "Guarded trace properties" (closed formulas).
use Rattle.std.specs.Prelude.{ℕ, zero, suc, List, [], ◌∷◌}
use Rattle.sp_spec.specs.Lists.{Every}
use Rattle.sp_spec.specs.Term.{EachVariable, EachVariables}
use Rattle.sp_spec.specs.Guarded.{Place, free, bound, Binder, message, time, Atom, acts, same, same_time, before, last, Guarded, truth, falsity, holds, fails, all_of, one_of, some, every, Guardeds, no_more, and_then}

-- a variable of the system, or one of these bound places
abbrev pub IsReached : (ℕ → Type 0) → Place → Type 0
IsReached B (free x) = Unit {0}
IsReached B (bound k) = B k

abbrev pub AtomReached : (ℕ → Type 0) → Atom → Type 0
AtomReached B (acts a i) = EachVariables (IsReached B) a.args
AtomReached B (same t u) = EachVariable (IsReached B) t × EachVariable (IsReached B) u
AtomReached B (same_time i j) = Unit {0}
AtomReached B (before i j) = Unit {0}
AtomReached B (last i) = Unit {0}

-- in the reach of one more binder of a message: that one, and those outside
abbrev pub OneMore : (ℕ → Type 0) → ℕ → Type 0
OneMore B zero = Unit {0}
OneMore B (suc k) = B k

abbrev pub reached_within : List Binder → (ℕ → Type 0) → ℕ → Type 0
reached_within [] B = B
reached_within (message sort ∷ bs) B = reached_within bs (OneMore B)
reached_within (time ∷ bs) B = reached_within bs B

-- each bound message of the formula is bound in it, or is one of these outside
abbrev mutual
  pub FormulaReached : (ℕ → Type 0) → Guarded → Type 0
  FormulaReached B truth = Unit {0}
  FormulaReached B falsity = Unit {0}
  FormulaReached B (holds a) = AtomReached B a
  FormulaReached B (fails a) = AtomReached B a
  FormulaReached B (all_of fs) = EachReached B fs
  FormulaReached B (one_of fs) = EachReached B fs
  FormulaReached B (some bs guard f) = Every (AtomReached (reached_within bs B)) guard × FormulaReached (reached_within bs B) f
  FormulaReached B (every bs guard f) = Every (AtomReached (reached_within bs B)) guard × FormulaReached (reached_within bs B) f

  pub EachReached : (ℕ → Type 0) → Guardeds → Type 0
  EachReached B no_more = Unit {0}
  EachReached B (and_then f fs) = FormulaReached B f × EachReached B fs

-- none outside
abbrev pub BindsItsPlaces : Guarded → Type 0
BindsItsPlaces f = FormulaReached (λ k. ⊥) f
