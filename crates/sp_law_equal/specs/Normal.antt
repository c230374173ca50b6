-- The normal form of a term, from the leaves up.
use Rattle.std.specs.Prelude.{List, [], ◌∷◌, map, Option, Some, None}
use Rattle.sp_spec.specs.Term.{Variable, Term, var, constant, name, app, none, more, Ground, Grounds, valued}
use Rattle.sp_spec.specs.Signature.{Equation}
use Rattle.sp_spec.specs.Rule.{Fact, Action, Facts}
use Rattle.sp_law_equal.specs.Matching.{Bound, value_in, matched}

abbrev pub found_or : Option (List Bound) → Term Variable → Ground → Ground
found_or None right other = other
found_or (Some bs) right other = valued (value_in bs) right

-- by the first equation whose left side matches
abbrev pub reduced : List Equation → Ground → Ground
reduced [] t = t
reduced (e ∷ es) t = found_or (matched e.left t []) e.right (reduced es t)

abbrev mutual
  pub normal : List Equation → Ground → Ground
  normal es (app f ts) = reduced es (app f (normal_all es ts))
  normal es (var x) = var x
  normal es (constant c) = constant c
  normal es (name n) = name n

  pub normal_all : List Equation → Grounds → Grounds
  normal_all es none = none
  normal_all es (more t ts) = more (normal es t) (normal_all es ts)

abbrev pub normal_fact : List Equation → Fact ⊥ → Fact ⊥
normal_fact es f = record { symbol = f.symbol; persistent = f.persistent; args = normal_all es f.args }

abbrev pub normal_action : List Equation → Action ⊥ → Action ⊥
normal_action es a = record { symbol = a.symbol; args = normal_all es a.args }

abbrev pub normal_facts : List Equation → Facts ⊥ → Facts ⊥
normal_facts es f = record {
  premises = map (normal_fact es) f.premises;
  actions = map (normal_action es) f.actions;
  conclusions = map (normal_fact es) f.conclusions;
}
