-- Guarded formulas in which no variable of the system and no time of the system stands.
use Rattle.sp_spec.specs.Lists.{Every}
use Rattle.sp_spec.specs.Term.{Term, var, constant, name, app, Terms, none, more}
use Rattle.sp_spec.specs.Guarded.{Place, free, bound, Time, free_time, bound_time, Atom, acts, same, same_time, before, last, Guarded, Guardeds, truth, falsity, holds, fails, all_of, one_of, some, every, no_more, and_then}

abbrev pub IsBoundPlace : Place → Type 0
IsBoundPlace (free x) = ⊥
IsBoundPlace (bound k) = Unit {0}

abbrev mutual
  pub IsClosedTerm : Term Place → Type 0
  IsClosedTerm (var p) = IsBoundPlace p
  IsClosedTerm (constant c) = Unit {0}
  IsClosedTerm (name n) = Unit {0}
  IsClosedTerm (app f ts) = AreClosedTerms ts

  pub AreClosedTerms : Terms Place → Type 0
  AreClosedTerms none = Unit {0}
  AreClosedTerms (more t ts) = IsClosedTerm t × AreClosedTerms ts

abbrev pub IsClosedTime : Time → Type 0
IsClosedTime (free_time i) = ⊥
IsClosedTime (bound_time k) = Unit {0}

abbrev pub IsClosedAtom : Atom → Type 0
IsClosedAtom (acts a i) = AreClosedTerms a.args × IsClosedTime i
IsClosedAtom (same t u) = IsClosedTerm t × IsClosedTerm u
IsClosedAtom (same_time i j) = IsClosedTime i × IsClosedTime j
IsClosedAtom (before i j) = IsClosedTime i × IsClosedTime j
IsClosedAtom (last i) = IsClosedTime i

abbrev mutual
  pub IsClosed : Guarded → Type 0
  IsClosed truth = Unit {0}
  IsClosed falsity = Unit {0}
  IsClosed (holds a) = IsClosedAtom a
  IsClosed (fails a) = IsClosedAtom a
  IsClosed (all_of gs) = AreClosed gs
  IsClosed (one_of gs) = AreClosed gs
  IsClosed (some bs guard g) = Every IsClosedAtom guard × IsClosed g
  IsClosed (every bs guard g) = Every IsClosedAtom guard × IsClosed g

  pub AreClosed : Guardeds → Type 0
  AreClosed no_more = Unit {0}
  AreClosed (and_then g gs) = IsClosed g × AreClosed gs
