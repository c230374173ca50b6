-- Equate: terms, or times, that are said to be equal. Source: CSF 2012, "Constraint solving" (the rule on equalities).
-- The elementary move and its contradiction, where there is no unifier or events can't be one.
use Rattle.std.specs.Prelude.{ℕ, Option, Some, None, option_map, ◌==◌, if◌then◌else◌, [], ◌∷◌, option_and_then, Bool, false, is_none, ◌||◌, List}
use Rattle.sp_spec.specs.Unifier.{Pair, mgu}
use Rattle.sp_spec.specs.Guarded.{free_time, same, same_time, Guarded, holds}
use Rattle.sp_spec_system.specs.Formulas.{pair_of, first_formula, spending}
use Rattle.sp_spec.specs.Substitution.{bound_to}
use Rattle.sp_spec_system.specs.System.{System}
use Rattle.sp_spec_system.specs.Equating.{system_changed}
use Rattle.sp_spec_system.specs.MakingOne.{made_one}

-- Equate: terms that are said to have one value are made the same by their unifier, and of times that are said to be one the larger
-- number is replaced by the smaller. Events at both times are one.
pub data Equation : Type 0 where
  equal_terms : Pair → Equation
  equal_times : ℕ → ℕ → Equation

abbrev pub equation_of : Guarded → Option Equation
equation_of (holds (same t u)) = option_map equal_terms (pair_of t u)
equation_of (holds (same_time (free_time i) (free_time j))) = Some (equal_times i j)
equation_of f = None

-- none where terms have no unifier, or facts of events that are to be one
abbrev pub equated : System → Equation → Option System
equated s (equal_terms p) = option_map (λ bs. system_changed (bound_to bs) (λ i. i) s) (mgu (p ∷ []))
equated s (equal_times i j) = if i == j then Some s else made_one s (i, j)

abbrev pub equate : System → Option System
equate s = option_and_then (λ r. equated (spending s r []) r.picked) (first_formula equation_of s.formulas)

-- Failing unification: two terms, or the events at two times, can't be one as some formula says.
abbrev pub equation_fails : System → Option Equation → Bool
equation_fails s None = false
equation_fails s (Some e) = is_none (equated s e)

abbrev pub fails_to_equate : System → List Guarded → Bool
fails_to_equate s [] = false
fails_to_equate s (f ∷ fs) = equation_fails s (equation_of f) || fails_to_equate s fs
