-- Whether a time occurs in the parts of a system, one after the other.
use Rattle.std.specs.Prelude.{ℕ, ◌==◌, ◌||◌, Bool, false, List, [], ◌∷◌, Option, Some, None}
use Rattle.sp_spec.specs.Guarded.{Time, free_time, bound_time, Atom, acts, same, same_time, before, last, Guarded, truth, falsity, holds, fails, all_of, one_of, some, every, Guardeds, no_more, and_then}
use Rattle.sp_spec_system.specs.System.{Way, chain_begun, chain_done, Happening, learning, Event, Link, System}

abbrev pub is_time : ℕ → Time → Bool
is_time i (free_time j) = j == i
is_time i (bound_time k) = false

abbrev pub atom_has : ℕ → Atom → Bool
atom_has i (acts a j) = is_time i j
atom_has i (same t u) = false
atom_has i (same_time j k) = is_time i j || is_time i k
atom_has i (before j k) = is_time i j || is_time i k
atom_has i (last j) = is_time i j

abbrev pub guard_has : ℕ → List Atom → Bool
guard_has i [] = false
guard_has i (a ∷ atoms) = atom_has i a || guard_has i atoms

abbrev mutual
  pub formula_has : ℕ → Guarded → Bool
  formula_has i truth = false
  formula_has i falsity = false
  formula_has i (holds a) = atom_has i a
  formula_has i (fails a) = atom_has i a
  formula_has i (all_of fs) = one_has i fs
  formula_has i (one_of fs) = one_has i fs
  formula_has i (some bs guard f) = guard_has i guard || formula_has i f
  formula_has i (every bs guard f) = guard_has i guard || formula_has i f

  pub one_has : ℕ → Guardeds → Bool
  one_has i no_more = false
  one_has i (and_then f fs) = formula_has i f || one_has i fs

abbrev pub formulas_have : ℕ → List Guarded → Bool
formulas_have i [] = false
formulas_have i (f ∷ fs) = formula_has i f || formulas_have i fs

abbrev pub way_has : ℕ → Way → Bool
way_has i (chain_begun j k ts) = j == i
way_has i (chain_done j k ts) = j == i
way_has i way = false

abbrev pub happening_has : ℕ → Happening → Bool
happening_has i (learning m way) = way_has i way
happening_has i h = false

abbrev pub event_has : ℕ → Event → Bool
event_has i e = (e.time == i) || happening_has i e.happening

abbrev pub events_have : ℕ → List Event → Bool
events_have i [] = false
events_have i (e ∷ es) = event_has i e || events_have i es

abbrev pub links_have : ℕ → List Link → Bool
links_have i [] = false
links_have i (l ∷ ls) = ((l.from == i) || (l.to == i)) || links_have i ls

abbrev pub order_has : ℕ → List (ℕ × ℕ) → Bool
order_has i [] = false
order_has i (p ∷ ps) = ((p.0 == i) || (p.1 == i)) || order_has i ps

abbrev pub is_last : ℕ → Option ℕ → Bool
is_last i None = false
is_last i (Some j) = j == i

abbrev pub some_part_has : ℕ → System → Bool
some_part_has i s =
    events_have i s.events || (formulas_have i s.formulas || (formulas_have i s.spent || (links_have i s.links || (order_has i s.order || is_last i s.last))))
