-- Values for the variables that are left in a list of events: fresh names ~n1, ~n2, .. for the fresh ones, and public names 'a1', 'a2', .. for
-- the others, but those that the theory has. Source: CSF 2012, "Constraint solving" (extracting an attack from a solved system).
use Rattle.std.specs.Prelude.{ℕ, zero, suc, ◌+◌, Bool, false, ◌||◌, if◌then◌else◌, List, [], ◌∷◌, ◌++◌, length, codes}
use Rattle.sp_spec.specs.Term.{Sort, Msg, Fresh, Pub, Variable, Term, constant, name, Values}
use Rattle.sp_spec.specs.Same.{same_variable}
pub use Rattle.sp_spec.specs.Term.{in_term, in_terms}
pub use Rattle.sp_spec.specs.Rule.{in_facts, in_actions, occurrences}
use Rattle.sp_spec.specs.Written.{is_listed}
use Rattle.sp_law_equal.specs.Matching.{Bound, value_in}
use Rattle.sp_spec_system.specs.System.{Way, chain_begun, chain_done, Happening, rule_step, sending, learning, Event}
use Rattle.sp_spec_solved.specs.Numeral.{numeral}

-- ---- the variables, in the order in which they first stand

-- those of messages, and of the way in which one is learnt
abbrev pub in_chain : List (Term Variable) → List Variable
in_chain [] = []
in_chain (t ∷ ts) = in_term t ++ in_chain ts

abbrev pub in_way : Way → List Variable
in_way (chain_begun i k ts) = in_chain ts
in_way (chain_done i k ts) = in_chain ts
in_way way = []

-- those of what happens
abbrev pub in_step : Happening → List Variable
in_step (rule_step r facts) = occurrences facts
in_step (sending m) = in_term m
in_step (learning m way) = in_term m ++ in_way way

abbrev pub in_events : List Event → List Variable
in_events [] = []
in_events (e ∷ es) = in_step e.happening ++ in_events es

abbrev pub is_seen : Variable → List Variable → Bool
is_seen x [] = false
is_seen x (y ∷ ys) = same_variable y x || is_seen x ys

-- behind these variables those of the others that don't stand yet, each once
abbrev pub once_after : List Variable → List Variable → List Variable
once_after seen [] = seen
once_after seen (x ∷ xs) = once_after (if is_seen x seen then seen else seen ++ x ∷ []) xs

abbrev pub variables_of : List Event → List Variable
variables_of events = once_after [] (in_events events)

-- ---- their values

abbrev pub if_fresh : {A : Type 0} → Sort → A → A → A
if_fresh Fresh a b = a
if_fresh Pub a b = b
if_fresh Msg a b = b

abbrev pub fresh_among : List Variable → List Variable
fresh_among [] = []
fresh_among (x ∷ xs) = if_fresh x.sort (x ∷ fresh_among xs) (fresh_among xs)

abbrev pub others_among : List Variable → List Variable
others_among [] = []
others_among (x ∷ xs) = if_fresh x.sort (others_among xs) (x ∷ others_among xs)

-- the fresh names from a number on
abbrev pub fresh_given : ℕ → List Variable → List Bound
fresh_given n [] = []
fresh_given n (x ∷ xs) = (x, name n) ∷ fresh_given (suc n) xs

abbrev pub public_name : ℕ → List ℕ
public_name k = codes "a" ++ numeral k

-- the public names from a number on, as far as so many names go, but those of the theory; the last for all variables that are left then
abbrev pub public_given : List (List ℕ) → ℕ → ℕ → List Variable → List Bound
public_given constants zero k [] = []
public_given constants zero k (x ∷ xs) = (x, constant (public_name k)) ∷ public_given constants zero k xs
public_given constants (suc n) k [] = []
public_given constants (suc n) k (x ∷ xs) =
    if is_listed (public_name k) constants
    then public_given constants n (suc k) (x ∷ xs)
    else (x, constant (public_name k)) ∷ public_given constants n (suc k) xs

-- of so many names the theory can't have them all
abbrev pub given : List (List ℕ) → List Variable → List Bound
given constants xs = fresh_given 1 (fresh_among xs) ++ public_given constants (length (others_among xs) + length constants) 1 (others_among xs)

abbrev pub values_of : List (List ℕ) → List Event → Values
values_of constants events = value_in (given constants (variables_of events))
