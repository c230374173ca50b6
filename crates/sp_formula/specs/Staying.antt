-- Whether nothing in it changes where bound variables and one time are replaced.
use Rattle.std.specs.Prelude.{ℕ, Bool, true, not, ◌&&◌, ◌||◌, ◌==◌, List, [], ◌∷◌, is_none}
use Rattle.sp_spec.specs.Term.{Variable, each_variable, each_variables}
use Rattle.sp_spec.specs.Substitution.{Binding, lookup}
use Rattle.sp_spec.specs.Guarded.{Place, free, bound, Time, free_time, bound_time, Atom, acts, same, same_time, before, last, Guarded, truth, falsity, holds, fails, all_of, one_of, some, every, Guardeds, no_more, and_then}

-- no binding is the variable's
abbrev pub is_unbound : List Binding → Variable → Bool
is_unbound bs x = is_none (lookup bs x)

abbrev pub place_stays : List Binding → Place → Bool
place_stays bs (free x) = is_unbound bs x
place_stays bs (bound k) = true

-- `small` doesn't stand in its place, or is the same
abbrev pub time_stays : ℕ → ℕ → ℕ → Bool
time_stays small large i = not (i == large) || (small == large)

abbrev pub moment_stays : ℕ → ℕ → Time → Bool
moment_stays small large (free_time i) = time_stays small large i
moment_stays small large (bound_time k) = true

abbrev pub atom_stays : List Binding → ℕ → ℕ → Atom → Bool
atom_stays bs small large (acts a i) = each_variables (place_stays bs) a.args && moment_stays small large i
atom_stays bs small large (same t u) = each_variable (place_stays bs) t && each_variable (place_stays bs) u
atom_stays bs small large (same_time i j) = moment_stays small large i && moment_stays small large j
atom_stays bs small large (before i j) = moment_stays small large i && moment_stays small large j
atom_stays bs small large (last i) = moment_stays small large i

abbrev pub all_so : {A : Type 0} → (A → Bool) → List A → Bool
all_so passes [] = true
all_so passes (x ∷ xs) = passes x && all_so passes xs

abbrev mutual
  pub formula_stays : List Binding → ℕ → ℕ → Guarded → Bool
  formula_stays bs small large truth = true
  formula_stays bs small large falsity = true
  formula_stays bs small large (holds a) = atom_stays bs small large a
  formula_stays bs small large (fails a) = atom_stays bs small large a
  formula_stays bs small large (all_of fs) = formulas_stay bs small large fs
  formula_stays bs small large (one_of fs) = formulas_stay bs small large fs
  formula_stays bs small large (some binders guard f) = all_so (atom_stays bs small large) guard && formula_stays bs small large f
  formula_stays bs small large (every binders guard f) = all_so (atom_stays bs small large) guard && formula_stays bs small large f

  pub formulas_stay : List Binding → ℕ → ℕ → Guardeds → Bool
  formulas_stay bs small large no_more = true
  formulas_stay bs small large (and_then f fs) = formula_stays bs small large f && formulas_stay bs small large fs
