-- What becomes of formulas where variables and times are replaced.
use Rattle.std.specs.Prelude.{ℕ, zero, suc, ◌==◌, if◌then◌else◌, List, [], ◌∷◌, map}
use Rattle.sp_spec.specs.Term.{Variable, Term, var, valued}
use Rattle.sp_spec.specs.Rule.{action_at}
use Rattle.sp_spec.specs.Guarded.{Place, free, bound, Time, free_time, bound_time, Binder, message, time, Atom, acts, same, same_time, before, last, Guarded, truth, falsity, holds, fails, all_of, one_of, some, every, Guardeds, no_more, and_then, pushed}

-- what stands for the system's variables and times, and for what is bound outside
pub record Change : Type 0 where
  pub terms : Variable → Term Variable
  pub times : ℕ → ℕ
  pub bound_terms : ℕ → Term Place
  pub bound_times : ℕ → Time

-- a term of the system in a formula
abbrev pub placed : Term Variable → Term Place
placed t = valued (λ x. var (free x)) t

abbrev pub place_changed : Change → Place → Term Place
place_changed c (free x) = placed (c.terms x)
place_changed c (bound k) = c.bound_terms k

abbrev pub time_changed : Change → Time → Time
time_changed c (free_time i) = free_time (c.times i)
time_changed c (bound_time k) = c.bound_times k

-- one binder further in, what is bound outside is one place further out
abbrev pub raised_place : Place → Term Place
raised_place (free x) = var (free x)
raised_place (bound k) = var (bound (suc k))

abbrev pub raised : Term Place → Term Place
raised t = valued raised_place t

abbrev pub raised_time : Time → Time
raised_time (free_time i) = free_time i
raised_time (bound_time k) = bound_time (suc k)

abbrev pub under_message : Change → Change
under_message c = record { terms = c.terms; times = c.times; bound_terms = pushed (var (bound zero)) (λ k. raised (c.bound_terms k)); bound_times = c.bound_times }

abbrev pub under_time : Change → Change
under_time c = record { terms = c.terms; times = c.times; bound_terms = c.bound_terms; bound_times = pushed (bound_time zero) (λ k. raised_time (c.bound_times k)) }

abbrev pub under : List Binder → Change → Change
under [] c = c
under (message sort ∷ bs) c = under bs (under_message c)
under (time ∷ bs) c = under bs (under_time c)

abbrev pub atom_changed : Change → Atom → Atom
atom_changed c (acts a i) = acts (action_at (place_changed c) a) (time_changed c i)
atom_changed c (same t u) = same (valued (place_changed c) t) (valued (place_changed c) u)
atom_changed c (same_time i j) = same_time (time_changed c i) (time_changed c j)
atom_changed c (before i j) = before (time_changed c i) (time_changed c j)
atom_changed c (last i) = last (time_changed c i)

abbrev mutual
  pub changed : Change → Guarded → Guarded
  changed c truth = truth
  changed c falsity = falsity
  changed c (holds a) = holds (atom_changed c a)
  changed c (fails a) = fails (atom_changed c a)
  changed c (all_of fs) = all_of (changed_each c fs)
  changed c (one_of fs) = one_of (changed_each c fs)
  changed c (some bs guard f) = some bs (map (atom_changed (under bs c)) guard) (changed (under bs c) f)
  changed c (every bs guard f) = every bs (map (atom_changed (under bs c)) guard) (changed (under bs c) f)

  pub changed_each : Change → Guardeds → Guardeds
  changed_each c no_more = no_more
  changed_each c (and_then f fs) = and_then (changed c f) (changed_each c fs)

-- what is bound stays
abbrev pub free_change : (Variable → Term Variable) → (ℕ → ℕ) → Change
free_change terms times = record { terms = terms; times = times; bound_terms = λ k. var (bound k); bound_times = bound_time }

-- for the binders, variables of the numbers from next on, in order
abbrev pub opened : List Binder → ℕ → Change → Change
opened [] next c = c
opened (message sort ∷ bs) next c =
    opened bs (suc next) (record { terms = c.terms; times = c.times; bound_terms = pushed (var (free (record { sort = sort; number = next }))) c.bound_terms; bound_times = c.bound_times })
opened (time ∷ bs) next c =
    opened bs (suc next) (record { terms = c.terms; times = c.times; bound_terms = c.bound_terms; bound_times = pushed (free_time next) c.bound_times })

abbrev pub opening : List Binder → ℕ → Change
opening bs next = opened bs next (free_change var (λ i. i))

-- the larger of two times is replaced by the smaller
abbrev pub time_replaced : ℕ → ℕ → ℕ → ℕ
time_replaced small large i = if i == large then small else i
