-- Split: a conjunction. Source: CSF 2012, "Constraint solving" (the rules on formulas).
-- The elementary move and its contradiction: falsity is among the formulas.
use Rattle.std.specs.Prelude.{List, [], ◌∷◌, Option, Some, None, option_map, Bool, true, false, ◌||◌}
use Rattle.sp_spec.specs.Guarded.{Guarded, truth, all_of, falsity, parts_of}
use Rattle.sp_spec_system.specs.System.{System}
use Rattle.sp_spec_system.specs.Formulas.{first_formula, spending}

-- Split: the parts of a conjunction stand in its place, and truth has none.
abbrev pub split_of : Guarded → Option (List Guarded)
split_of truth = Some []
split_of (all_of fs) = Some (parts_of fs)
split_of f = None

abbrev pub split : System → Option System
split s = option_map (λ r. spending s r r.picked) (first_formula split_of s.formulas)

-- False formula: falsity is among the formulas.
abbrev pub is_falsity : Guarded → Bool
is_falsity falsity = true
is_falsity f = false

abbrev pub has_falsity : List Guarded → Bool
has_falsity [] = false
has_falsity (f ∷ fs) = is_falsity f || has_falsity fs
