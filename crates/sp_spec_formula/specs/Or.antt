-- The move on a disjunction: its parts. Source: CSF 2012, "Constraint solving" (the rule on disjunctions).
use Rattle.std.specs.Prelude.{ℕ, suc, List, [], ◌∷◌, ◌++◌, codes, decimal, zero, Option, Some, None, option_map}
use Rattle.sp_spec.specs.Guarded.{Guardeds, no_more, and_then, Guarded, one_of}
use Rattle.sp_spec_system.specs.System.{System}
use Rattle.sp_spec_system.specs.Formulas.{Found, spending, behind}
use Rattle.sp_spec_system.specs.Move.{Case}

-- each part of a disjunction, in its place
abbrev pub by_part : System → Found Guardeds → ℕ → Guardeds → List Case
by_part s r k no_more = []
by_part s r k (and_then f fs) = record { name = codes "case_" ++ decimal k; system = spending s r (f ∷ []) } ∷ by_part s r (suc k) fs

-- the formula at a place, if it is a disjunction, with what stands before and behind it
abbrev pub disjunction_at : ℕ → List Guarded → Option (Found Guardeds)
disjunction_at k [] = None
disjunction_at zero (one_of fs ∷ gs) = Some (record { front = []; formula = one_of fs; picked = fs; back = gs })
disjunction_at zero (g ∷ gs) = None
disjunction_at (suc k) (g ∷ gs) = option_map (behind g) (disjunction_at k gs)

abbrev pub or_cases : System → Option (Found Guardeds) → Option (List Case)
or_cases s None = None
or_cases s (Some r) = Some (by_part s r 1 r.picked)
