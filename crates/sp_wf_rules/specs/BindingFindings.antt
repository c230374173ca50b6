-- What `let` binds in a rule, and the bound names that stand with another mark than their binding's. Source: Tamarin manual, "Model
-- specification using rules" (let bindings, sorts of variables).
use Rattle.std.specs.Prelude.{ℕ, Bool, true, false, if◌then◌else◌, List, [], ◌∷◌, ◌++◌, map}
use Rattle.std.specs.Str.{bytes_eq}
use Rattle.sp_spec.specs.Lists.{is_listed}
use Rattle.sp_spec.specs.Term.{Sort, Msg, Fresh, Pub, in_term}
use Rattle.sp_spec.specs.Rule.{Facts, occurrences}
use Rattle.sp_spec.specs.Formula.{Mark, bare, of_sort, of_time, Written}
use Rattle.sp_spec_text.specs.Bindings.{Binding}
use Rattle.sp_spec_text.specs.Written.{Item, rule_item}

-- a bare name is one of sort msg
abbrev pub is_same_mark : Mark → Mark → Bool
is_same_mark bare bare = true
is_same_mark bare (of_sort Msg) = true
is_same_mark (of_sort Msg) bare = true
is_same_mark (of_sort Msg) (of_sort Msg) = true
is_same_mark (of_sort Fresh) (of_sort Fresh) = true
is_same_mark (of_sort Pub) (of_sort Pub) = true
is_same_mark of_time of_time = true
is_same_mark m n = false

-- a bound name with its mark, and the names that stand in its value with another mark than their binding's
pub record Bound : Type 0 where
  pub variable : Written
  pub misused : List (List ℕ)

-- the name itself where it stands marked otherwise than bound, and then those that are misused in its value
abbrev pub misused_in : Bound → Written → List (List ℕ)
misused_in b x = if is_same_mark b.variable.mark x.mark then b.misused else x.name ∷ b.misused

-- where a name stands; of two bindings of it the first counts
abbrev pub misused_at : List Bound → Written → List (List ℕ)
misused_at [] x = []
misused_at (b ∷ bs) x = if bytes_eq b.variable.name x.name then misused_in b x else misused_at bs x

-- behind these names those that are new
abbrev pub and_new : List (List ℕ) → List (List ℕ) → List (List ℕ)
and_new names [] = names
and_new names (x ∷ xs) = and_new (if is_listed x names then names else names ++ x ∷ []) xs

-- behind these names those that are misused where these variables stand, each once
abbrev pub misused_after : List Bound → List (List ℕ) → List Written → List (List ℕ)
misused_after bs names [] = names
misused_after bs names (x ∷ xs) = misused_after bs (and_new names (misused_at bs x)) xs

abbrev pub misused_among : List Bound → List Written → List (List ℕ)
misused_among bs xs = misused_after bs [] xs

abbrev pub bound_by : List Bound → Binding → Bound
bound_by above b = record { variable = b.variable; misused = misused_among above (in_term b.value) }

-- behind these bound names those of the bindings, from the top down
abbrev pub bound_after : List Bound → List Binding → List Bound
bound_after above [] = above
bound_after above (b ∷ bs) = bound_after (above ++ bound_by above b ∷ []) bs

-- the names that bindings bind, and those that are misused in these facts
pub record BoundNames : Type 0 where
  pub bound : List (List ℕ)
  pub misused : List (List ℕ)

abbrev pub names_bound : List Binding → Facts Written → BoundNames
names_bound bs facts = record { bound = map (λ (b : Binding). b.variable.name) bs; misused = misused_among (bound_after [] bs) (occurrences facts) }

-- in the rule of an item
abbrev pub item_bound : Item → BoundNames
item_bound (rule_item bs r) = names_bound bs r.facts
item_bound item = record { bound = []; misused = [] }

abbrev pub bound_in : List Item → List BoundNames
bound_in items = map item_bound items
