-- Disjunction: its known parts and its false ones. Source: CSF 2012, "Constraint solving" (simplification of formulas).
use Rattle.std.specs.Prelude.{◌||◌, Bool, false, List, [], ◌∷◌, true, Option, Some, None, option_map, if◌then◌else◌}
use Rattle.sp_spec.specs.Guarded.{Guarded, truth, Guardeds, no_more, and_then, falsity, one_of}
use Rattle.sp_spec.specs.SameFormula.{same_formula}
use Rattle.sp_spec_system.specs.System.{System}
use Rattle.sp_spec_system.specs.Formulas.{first_formula, spending}

-- Disjunction: one with a part that is true, or among the formulas, or spent, is spent. Else a part that is false is left out. What is left
-- of the parts stands in its place, where it is one part alone that part.
abbrev pub is_a_formula : List Guarded → Guarded → Bool
is_a_formula [] f = false
is_a_formula (g ∷ gs) f = same_formula g f || is_a_formula gs f

abbrev pub is_truth : Guarded → Bool
is_truth truth = true
is_truth f = false

abbrev pub is_known : System → Guarded → Bool
is_known s f = is_truth f || (is_a_formula s.formulas f || is_a_formula s.spent f)

abbrev pub some_known : System → Guardeds → Bool
some_known s no_more = false
some_known s (and_then f fs) = is_known s f || some_known s fs

abbrev pub without_false : Guardeds → Option Guardeds
without_false no_more = None
without_false (and_then falsity fs) = Some fs
without_false (and_then f fs) = option_map (and_then f) (without_false fs)

abbrev pub disjunction_of : Guardeds → Guarded
disjunction_of no_more = falsity
disjunction_of (and_then f no_more) = f
disjunction_of fs = one_of fs

-- what stands in the place of the disjunction
abbrev pub instead_of : System → Guarded → Option (List Guarded)
instead_of s (one_of fs) = if some_known s fs then Some [] else option_map (λ gs. disjunction_of gs ∷ []) (without_false fs)
instead_of s f = None

abbrev pub disjunction : System → Option System
disjunction s = option_map (λ r. spending s r r.picked) (first_formula (instead_of s) s.formulas)
