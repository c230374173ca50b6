-- The negation of an action, as it is made: every without binders, with the action as guard and falsity as body.
use Rattle.std.specs.Prelude.{Bool, true, false, List, [], ◌∷◌}
use Rattle.sp_spec.specs.Guarded.{Binder, Atom, acts, same, same_time, before, last, Guarded, falsity, holds}

abbrev pub is_action : Atom → Bool
is_action (acts a i) = true
is_action (same t u) = false
is_action (same_time i j) = false
is_action (before i j) = false
is_action (last i) = false

abbrev pub is_negated_action : List Binder → List Atom → Guarded → Bool
is_negated_action [] (a ∷ []) falsity = is_action a
is_negated_action bs guard g = false

-- the first of the atoms holds
abbrev pub held : List Atom → Guarded
held [] = falsity
held (a ∷ atoms) = holds a
