-- The first variable that is not guarded of those that stand behind one All or Ex in the text.
use Rattle.std.specs.Prelude.{ℕ, ◌+◌, List, [], ◌∷◌, Option, Some, None, option_map}
use denote.Ref.{Bor}
use Rattle.sp_spec.specs.Formula.{Written}
use Rattle.sp_spec.specs.Guarded.{Binder, message, time, Atom, Guarded, some, every}
use Rattle.sp_law_guard.specs.IsGuarded.{message_guarded, time_guarded, messages_in, times_in}
use Rattle.sp_guard.specs.Unguarded.{QuantifierAbove, below_some, named_unless}
use Rattle.sp_guard.specs.declared.unguarded.QuantifierAbove as memory

-- The binders have these names, and their quantifier binds n messages; binders or names that are left over are passed by.
abbrev pub named_in : ℕ → List Atom → List Binder → List Written → Option (List ℕ)
named_in n guard [] xs = None
named_in n guard (b ∷ bs) [] = None
named_in n guard (message sort ∷ bs) (x ∷ xs) = named_unless x (message_guarded n guard (messages_in bs)) (named_in n guard bs xs)
named_in n guard (time ∷ bs) (x ∷ xs) = named_unless x (time_guarded guard (times_in bs)) (named_in n guard bs xs)

-- in the form of a quantifier that is joined with one above, which binds so many messages
abbrev pub named_in_form : ℕ → Option Guarded → List Written → Option (List ℕ)
named_in_form outer (Some (some bs guard g)) xs = named_in (outer + messages_in bs) guard bs xs
named_in_form outer (Some (every bs guard g)) xs = named_in (outer + messages_in bs) guard bs xs
named_in_form outer (Some g) xs = None
named_in_form outer None xs = None

-- below an Ex of these variables
abbrev pub below_each : List Written → QuantifierAbove → QuantifierAbove
below_each [] above = above
below_each (x ∷ xs) above = below_each xs (below_some x above)

abbrev pub above_of : memory.QuantifierAbove → QuantifierAbove
above_of a = record { of_some = a.of_some; of_all = a.of_all }

abbrev pub name_of : Option (Bor (List ℕ)) → Option (List ℕ)
name_of o = option_map (λ (s : Bor (List ℕ)). s.now) o
