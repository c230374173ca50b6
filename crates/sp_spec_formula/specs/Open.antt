-- Open: an existential formula. Source: CSF 2012, "Constraint solving" (the rule on existential quantifiers).
use Rattle.std.specs.Prelude.{List, Option, Some, None, ◌+◌, [], ◌∷◌, ◌++◌, map, length, option_map}
use Rattle.sp_spec.specs.Guarded.{Binder, Atom, Guarded, some, holds}
use Rattle.sp_spec.specs.Change.{atom_changed, changed, opening}
use Rattle.sp_spec_system.specs.System.{System, with_next}
use Rattle.sp_spec_system.specs.Formulas.{Found, spending, first_formula}

-- Open an existential formula: its variables are new, and its guard and then its body stand in its place.
pub record Existential : Type 0 where
  pub binders : List Binder
  pub guard : List Atom
  pub body : Guarded

abbrev pub existential_of : Guarded → Option Existential
existential_of (some bs guard f) = Some (record { binders = bs; guard = guard; body = f })
existential_of f = None

abbrev pub opened_at : System → Found Existential → System
opened_at s r =
    let e = r.picked in
    let c = opening e.binders s.next in
    with_next (spending s r (map (λ a. holds (atom_changed c a)) e.guard ++ changed c e.body ∷ [])) (s.next + length e.binders)

abbrev pub open_existential : System → Option System
open_existential s = option_map (opened_at s) (first_formula existential_of s.formulas)
