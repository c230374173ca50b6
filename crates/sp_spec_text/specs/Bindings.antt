-- What `let` binds in a rule: the right side of each binding gets the values of those above it, then the facts get all of them at once. A name is
-- replaced whatever its mark. Source: Tamarin manual, "Model specification using rules" (let bindings).
use Rattle.std.specs.Prelude.{ℕ, if◌then◌else◌, List, [], ◌∷◌, ◌++◌, Option, Some, None}
use Rattle.std.specs.Str.{bytes_eq}
use Rattle.sp_spec.specs.Term.{Term, var, valued}
use Rattle.sp_spec.specs.Rule.{facts_at}
use Rattle.sp_spec.specs.Formula.{Written}
use Rattle.sp_spec.specs.Written.{WrittenRule}

-- a variable, and the term that stands for it
pub record Binding : Type 0 where
  pub variable : Written
  pub value : Term Written

-- the value of the first binding of this name
abbrev pub bound_value : List Binding → List ℕ → Option (Term Written)
bound_value [] x = None
bound_value (b ∷ bs) x = if bytes_eq b.variable.name x then Some b.value else bound_value bs x

abbrev pub or_itself : Written → Option (Term Written) → Term Written
or_itself x None = var x
or_itself x (Some t) = t

abbrev pub value_by : List Binding → Written → Term Written
value_by bs x = or_itself x (bound_value bs x.name)

-- the binding with the values of these
abbrev pub binding_with : List Binding → Binding → Binding
binding_with above b = record { variable = b.variable; value = valued (value_by above) b.value }

-- behind these bindings, whose values are whole, the others with the values of those above each
abbrev pub whole_after : List Binding → List Binding → List Binding
whole_after above [] = above
whole_after above (b ∷ bs) = whole_after (above ++ binding_with above b ∷ []) bs

abbrev pub whole : List Binding → List Binding
whole bs = whole_after [] bs

abbrev pub with_whole : List Binding → WrittenRule → WrittenRule
with_whole bs r = record { name = r.name; facts = facts_at (value_by bs) r.facts }

-- a rule with the values of its bindings in its facts
abbrev pub with_values : List Binding → WrittenRule → WrittenRule
with_values [] r = r
with_values (b ∷ bs) r = with_whole (whole (b ∷ bs)) r
