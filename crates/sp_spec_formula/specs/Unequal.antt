-- Unequal: terms that are said to differ. Source: CSF 2012, "Constraint solving" (the rules on negated atoms).
-- The elementary move and its contradiction: the two terms are the same.
use Rattle.std.specs.Prelude.{Option, None, List, [], ◌∷◌, ◌++◌, Some, option_map, ◌||◌, Bool, false}
use Rattle.sp_spec.specs.Guarded.{same, Guarded, fails}
use Rattle.sp_spec.specs.Unifier.{Pair, mgu}
use Rattle.sp_spec_system.specs.Formulas.{pair_of, Found, spending, first_formula}
use Rattle.sp_spec.specs.Substitution.{Binding}
use Rattle.sp_spec_system.specs.System.{System, with_unequal}
use Rattle.sp_spec.specs.Same.{alike}

abbrev pub inequality_of : Guarded → Option Pair
inequality_of (fails (same t u)) = pair_of t u
inequality_of f = None

abbrev pub kept_unequal : List Pair → Pair → Option (List Binding) → List Pair
kept_unequal unequal p (Some bs) = unequal ++ p ∷ []
kept_unequal unequal p None = unequal

abbrev pub unequal_at : System → Found Pair → System
unequal_at s r = with_unequal (spending s r []) (kept_unequal s.unequal r.picked (mgu (r.picked ∷ [])))

abbrev pub unequal : System → Option System
unequal s = option_map (unequal_at s) (first_formula inequality_of s.formulas)

-- Contradictions (among them a cyclic order). Equal unequal pair: the two terms are the same.
abbrev pub has_equal_pair : List Pair → Bool
has_equal_pair [] = false
has_equal_pair (p ∷ pairs) = alike p.0 p.1 || has_equal_pair pairs
