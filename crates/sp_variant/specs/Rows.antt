-- Rows that are made one element after the other, in all ways.
use Rattle.std.specs.Prelude.{List, [], ◌∷◌, ◌++◌, map}
use Rattle.std.specs.List.{flat_map}
use Rattle.sp_spec.specs.Term.{Variable, Terms}
use Rattle.sp_spec.specs.Signature.{Equation}
use Rattle.sp_spec.specs.Rule.{Fact, Action, Facts}
use Rattle.sp_spec_forms.specs.Narrowing.{Chosen, Ways, each, narrow_all, narrow_fact, narrow_action}

-- the row with one more, that is made in one of these ways
abbrev pub with_one_more : {A : Type 0} → List A → List (A × Chosen) → List (List A × Chosen)
with_one_more before ways = map (λ q. (before ++ q.0 ∷ [], q.1)) ways

-- each row with one more, in all its ways from what was chosen with the row
abbrev pub longer : {A : Type 0} → Ways A → List (List A × Chosen) → List (List A × Chosen)
longer m rows = flat_map (λ r. with_one_more r.0 (m r.1)) rows

-- a fact or an action, whose arguments are narrowed
abbrev pub narrow_arguments : {A : Type 0} → (A → Terms Variable) → (A → Terms Variable → A) → List Equation → A → Ways A
narrow_arguments args_of with_args es x s = map (λ r. (with_args x r.0, r.1)) (narrow_all es (args_of x) s)

-- ---- facts, with premises and actions that are made, and all ways to narrow those after them

abbrev pub finished : List (Fact Variable) → List (Action Variable) → List (List (Fact Variable) × Chosen) → List (Facts Variable × Chosen)
finished premises actions ways = map (λ c. (record { premises = premises; actions = actions; conclusions = c.0 }, c.1)) ways

abbrev pub with_conclusions : List Equation → Facts Variable → List (Fact Variable) → List (Action Variable) × Chosen → List (Facts Variable × Chosen)
with_conclusions es f premises row = finished premises row.0 (each (narrow_fact es) f.conclusions row.1)

abbrev pub with_actions : List Equation → Facts Variable → List (Fact Variable) × Chosen → List (Facts Variable × Chosen)
with_actions es f row = flat_map (with_conclusions es f row.0) (each (narrow_action es) f.actions row.1)
