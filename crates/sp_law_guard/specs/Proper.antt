-- Guarded formulas as they are made: an action is negated by every without binders, and no other quantifier is without binders.
use Rattle.std.specs.Prelude.{List, [], ◌∷◌}
use Rattle.sp_spec.specs.Guarded.{Binder, Atom, acts, same, same_time, before, last, Guarded, Guardeds, truth, falsity, holds, fails, all_of, one_of, some, every, no_more, and_then}

abbrev pub HasBinders : List Binder → Type 0
HasBinders [] = ⊥
HasBinders (b ∷ bs) = Unit {0}

abbrev pub IsNoAction : Atom → Type 0
IsNoAction (acts a i) = ⊥
IsNoAction (same t u) = Unit {0}
IsNoAction (same_time i j) = Unit {0}
IsNoAction (before i j) = Unit {0}
IsNoAction (last i) = Unit {0}

abbrev mutual
  pub IsProper : Guarded → Type 0
  IsProper truth = Unit {0}
  IsProper falsity = Unit {0}
  IsProper (holds a) = Unit {0}
  IsProper (fails a) = IsNoAction a
  IsProper (all_of gs) = AreProper gs
  IsProper (one_of gs) = AreProper gs
  IsProper (some bs guard g) = HasBinders bs × IsProper g
  IsProper (every [] (acts a i ∷ []) falsity) = Unit {0}
  IsProper (every bs guard g) = HasBinders bs × IsProper g

  pub AreProper : Guardeds → Type 0
  AreProper no_more = Unit {0}
  AreProper (and_then g gs) = IsProper g × AreProper gs
