-- Which formulas are guarded: each bound variable stands in an action of its quantifier's guard, or a guard's equality gives it by terms
-- whose variables are bound outside or stand in actions of the same guard. Source: CSF 2012, "Guarded trace properties".
use Rattle.std.specs.Prelude.{ℕ, zero, suc, Bool, true, false, ◌&&◌, ◌||◌, ◌==◌, nat_lt, not, List, [], ◌∷◌}
use Rattle.sp_spec.specs.Term.{Term, var, Terms, each_variable, some_variable, some_variables}
use Rattle.sp_spec.specs.Guarded.{Place, free, bound, Time, free_time, bound_time, Binder, message, time, Atom, acts, same, Guarded, Guardeds, truth, falsity, holds, fails, all_of, one_of, some, every, no_more, and_then}

-- the bound message of that place stands in the term
abbrev pub is_place : ℕ → Place → Bool
is_place k (free x) = false
is_place k (bound j) = j == k

abbrev pub stands_in : ℕ → Term Place → Bool
stands_in k t = some_variable (is_place k) t

abbrev pub stands_among : ℕ → Terms Place → Bool
stands_among k ts = some_variables (is_place k) ts

-- it stands in an action of the guard
abbrev pub in_action : ℕ → List Atom → Bool
in_action k [] = false
in_action k (acts a i ∷ atoms) = stands_among k a.args || in_action k atoms
in_action k (a ∷ atoms) = in_action k atoms

-- each variable of the term is bound outside, with n messages bound by the quantifier, or stands in an action of the guard
abbrev pub place_given : ℕ → List Atom → Place → Bool
place_given n guard (free x) = true
place_given n guard (bound j) = not (nat_lt j n) || in_action j guard

abbrev pub is_given : ℕ → List Atom → Term Place → Bool
is_given n guard t = each_variable (place_given n guard) t

abbrev pub is_variable : ℕ → Term Place → Bool
is_variable k (var p) = is_place k p
is_variable k t = false

-- an equality of the guard gives it
abbrev pub by_equality : ℕ → List Atom → ℕ → List Atom → Bool
by_equality n guard k [] = false
by_equality n guard k (same t u ∷ atoms) = (is_variable k t && is_given n guard u) || (is_variable k u && is_given n guard t) || by_equality n guard k atoms
by_equality n guard k (a ∷ atoms) = by_equality n guard k atoms

abbrev pub message_guarded : ℕ → List Atom → ℕ → Bool
message_guarded n guard k = in_action k guard || by_equality n guard k guard

abbrev pub is_time_place : ℕ → Time → Bool
is_time_place k (free_time i) = false
is_time_place k (bound_time j) = j == k

-- a time stands at an action
abbrev pub time_guarded : List Atom → ℕ → Bool
time_guarded [] k = false
time_guarded (acts a i ∷ atoms) k = is_time_place k i || time_guarded atoms k
time_guarded (a ∷ atoms) k = time_guarded atoms k

abbrev pub messages_in : List Binder → ℕ
messages_in [] = zero
messages_in (message sort ∷ bs) = suc (messages_in bs)
messages_in (time ∷ bs) = messages_in bs

abbrev pub times_in : List Binder → ℕ
times_in [] = zero
times_in (message sort ∷ bs) = times_in bs
times_in (time ∷ bs) = suc (times_in bs)

-- each of the binders, the outermost first; the quantifier binds n messages
abbrev pub each_guarded : ℕ → List Atom → List Binder → Bool
each_guarded n guard [] = true
each_guarded n guard (message sort ∷ bs) = message_guarded n guard (messages_in bs) && each_guarded n guard bs
each_guarded n guard (time ∷ bs) = time_guarded guard (times_in bs) && each_guarded n guard bs

abbrev mutual
  pub is_guarded : Guarded → Bool
  is_guarded truth = true
  is_guarded falsity = true
  is_guarded (holds a) = true
  is_guarded (fails a) = true
  is_guarded (all_of gs) = are_guarded gs
  is_guarded (one_of gs) = are_guarded gs
  is_guarded (some bs guard g) = each_guarded (messages_in bs) guard bs && is_guarded g
  is_guarded (every bs guard g) = each_guarded (messages_in bs) guard bs && is_guarded g

  pub are_guarded : Guardeds → Bool
  are_guarded no_more = true
  are_guarded (and_then g gs) = is_guarded g && are_guarded gs
