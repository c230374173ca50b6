-- What is said of each bound time below a number, the greatest first.
use Rattle.std.specs.Prelude.{ℕ, zero, suc, List, [], ◌∷◌}
use Rattle.sp_spec.specs.Guarded.{bound_time, Atom, last, Guarded}

abbrev pub descending : (Atom → Guarded) → ℕ → List Guarded
descending literal zero = []
descending literal (suc k) = literal (last (bound_time k)) ∷ descending literal k
