-- The symbols of the actions that a written formula speaks of.
use Rattle.std.specs.Prelude.{ℕ, List, [], ◌∷◌, ◌++◌}
use Rattle.sp_spec.specs.Formula.{Formula, truth, falsity, happens, equals, precedes, not_so, both, either, implies, for_all, for_some}

abbrev pub symbols_of : Formula → List (List ℕ)
symbols_of truth = []
symbols_of falsity = []
symbols_of (happens a i) = a.symbol ∷ []
symbols_of (equals t u) = []
symbols_of (precedes i j) = []
symbols_of (not_so f) = symbols_of f
symbols_of (both f g) = symbols_of f ++ symbols_of g
symbols_of (either f g) = symbols_of f ++ symbols_of g
symbols_of (implies f g) = symbols_of f ++ symbols_of g
symbols_of (for_all x f) = symbols_of f
symbols_of (for_some x f) = symbols_of f
