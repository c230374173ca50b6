-- What induction over the length of a trace takes for granted of a formula, and which formulas need no such hypothesis.
-- Source: Meier's thesis, "Trace induction"; Tamarin manual, "Advanced features" (induction).
use Rattle.std.specs.Prelude.{zero, Bool, true, false, ◌&&◌, List, [], ◌∷◌}
use Rattle.sp_spec.specs.Guarded.{bound_time, Binder, message, time, last, Guarded, Guardeds, truth, falsity, holds, fails, all_of, one_of, some, every, no_more, and_then, guardeds_of}
use Rattle.sp_law_truth.specs.Shown.{times_within}
use Rattle.sp_law_guard.specs.GuardedForm.{conjunction, disjunction}

-- For each time that the binders bind, in their order: it is the last, and it isn't.
abbrev pub lasts : List Binder → List Guarded
lasts [] = []
lasts (message sort ∷ bs) = lasts bs
lasts (time ∷ bs) = holds (last (bound_time (times_within bs zero))) ∷ lasts bs

abbrev pub not_lasts : List Binder → List Guarded
not_lasts [] = []
not_lasts (message sort ∷ bs) = not_lasts bs
not_lasts (time ∷ bs) = fails (last (bound_time (times_within bs zero))) ∷ not_lasts bs

-- these stand in front of the body's disjuncts; those after its conjuncts; where there are none the body stays
abbrev pub or_else : List Guarded → Guarded → Guarded
or_else [] g = g
or_else (p ∷ ps) g = disjunction (one_of (guardeds_of (p ∷ ps))) g

abbrev pub and_also : Guarded → List Guarded → Guarded
and_also g [] = g
and_also g (p ∷ ps) = conjunction g (all_of (guardeds_of (p ∷ ps)))

-- The formula, said of the trace without its newest entry: one of the times of an "every" is the last, or its body is so;
-- the body of a "some" is so, and none of its times is the last.
abbrev mutual
  pub hypothesis : Guarded → Guarded
  hypothesis truth = truth
  hypothesis falsity = falsity
  hypothesis (holds a) = holds a
  hypothesis (fails a) = fails a
  hypothesis (all_of gs) = all_of (hypotheses gs)
  hypothesis (one_of gs) = one_of (hypotheses gs)
  hypothesis (some bs guard g) = some bs guard (and_also (hypothesis g) (not_lasts bs))
  hypothesis (every bs guard g) = every bs guard (or_else (lasts bs) (hypothesis g))

  pub hypotheses : Guardeds → Guardeds
  hypotheses no_more = no_more
  hypotheses (and_then g gs) = and_then (hypothesis g) (hypotheses gs)

-- A safety formula: no "some" stands in it. Source: Meier's thesis, "Trace induction"; CSF 2012, "Guarded trace properties".
abbrev mutual
  pub is_safety : Guarded → Bool
  is_safety truth = true
  is_safety falsity = true
  is_safety (holds a) = true
  is_safety (fails a) = true
  is_safety (all_of gs) = are_safety gs
  is_safety (one_of gs) = are_safety gs
  is_safety (some bs guard g) = false
  is_safety (every bs guard g) = is_safety g

  pub are_safety : Guardeds → Bool
  are_safety no_more = true
  are_safety (and_then g gs) = is_safety g && are_safety gs
