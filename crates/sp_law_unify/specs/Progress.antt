-- How many in_term are left in pairs of terms under bindings.
use Rattle.std.specs.Prelude.{ℕ, List, [], ◌∷◌, ◌++◌, length, Bool, false, ◌||◌}
use Rattle.std.specs.List.{filter}
use Rattle.sp_spec.specs.Term.{Variable, valued, in_term}
use Rattle.sp_spec.specs.Same.{same_variable}
use Rattle.sp_spec.specs.Substitution.{Binding, bound_to}
use Rattle.sp_spec.specs.Unifier.{Pair, occurs}

-- each variable of the pairs, as often as it stands there
abbrev pub variables_of : List Pair → List Variable
variables_of [] = []
variables_of (p ∷ pairs) = (in_term p.0 ++ in_term p.1) ++ variables_of pairs

abbrev pub listed : Variable → List Variable → Bool
listed x [] = false
listed x (y ∷ ys) = same_variable x y || listed x ys

-- whether the variable occurs in the pairs under these bindings
abbrev pub occurs_under : List Binding → List Pair → Variable → Bool
occurs_under bs [] x = false
occurs_under bs (p ∷ pairs) x = (occurs x (valued (bound_to bs) p.0) || occurs x (valued (bound_to bs) p.1)) || occurs_under bs pairs x

-- how many of the pairs' in_term still occur
abbrev pub left_over : List Binding → List Pair → ℕ
left_over bs pairs = length (filter (occurs_under bs pairs) (variables_of pairs))
