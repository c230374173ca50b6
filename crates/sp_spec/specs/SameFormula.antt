-- Whether formulas are the same up to the names of their bound variables, which bound places leave out.
use Rattle.std.specs.Prelude.{Bool, true, false, ◌&&◌, ◌==◌, List, [], ◌∷◌}
use Rattle.std.specs.Str.{bytes_eq}
use Rattle.sp_spec.specs.Guarded.{Place, free, bound, Time, free_time, bound_time, Binder, message, time, Atom, acts, same, same_time, before, last, Guarded, truth, falsity, holds, fails, all_of, one_of, some, every, Guardeds, no_more, and_then}
use Rattle.sp_spec.specs.Same.{same_sort, same_variable, same_by, same_all_by}

abbrev pub same_place : Place → Place → Bool
same_place (free x) (free y) = same_variable x y
same_place (bound k) (bound l) = k == l
same_place _ _ = false

abbrev pub same_moment : Time → Time → Bool
same_moment (free_time i) (free_time j) = i == j
same_moment (bound_time k) (bound_time l) = k == l
same_moment _ _ = false

abbrev pub same_binder : Binder → Binder → Bool
same_binder (message s) (message t) = same_sort s t
same_binder time time = true
same_binder _ _ = false

abbrev pub same_binders : List Binder → List Binder → Bool
same_binders [] [] = true
same_binders (b ∷ bs) (c ∷ cs) = same_binder b c && same_binders bs cs
same_binders _ _ = false

abbrev pub same_atom : Atom → Atom → Bool
same_atom (acts a i) (acts b j) = bytes_eq a.symbol b.symbol && same_all_by same_place a.args b.args && same_moment i j
same_atom (same t u) (same v w) = same_by same_place t v && same_by same_place u w
same_atom (same_time i j) (same_time k l) = same_moment i k && same_moment j l
same_atom (before i j) (before k l) = same_moment i k && same_moment j l
same_atom (last i) (last j) = same_moment i j
same_atom _ _ = false

abbrev pub same_atoms : List Atom → List Atom → Bool
same_atoms [] [] = true
same_atoms (a ∷ more_atoms) (b ∷ others) = same_atom a b && same_atoms more_atoms others
same_atoms _ _ = false

abbrev mutual
  pub same_formula : Guarded → Guarded → Bool
  same_formula truth truth = true
  same_formula falsity falsity = true
  same_formula (holds a) (holds b) = same_atom a b
  same_formula (fails a) (fails b) = same_atom a b
  same_formula (all_of fs) (all_of gs) = same_formulas fs gs
  same_formula (one_of fs) (one_of gs) = same_formulas fs gs
  same_formula (some bs guard f) (some cs other g) = same_binders bs cs && same_atoms guard other && same_formula f g
  same_formula (every bs guard f) (every cs other g) = same_binders bs cs && same_atoms guard other && same_formula f g
  same_formula _ _ = false

  pub same_formulas : Guardeds → Guardeds → Bool
  same_formulas no_more no_more = true
  same_formulas (and_then f fs) (and_then g gs) = same_formula f g && same_formulas fs gs
  same_formulas _ _ = false
