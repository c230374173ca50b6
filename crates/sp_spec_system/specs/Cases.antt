-- The cases of a move: their names and their order are this project's own.
use Rattle.std.specs.Prelude.{Option, option_map, ℕ, List, [], ◌∷◌, Some, None, ◌+◌, suc, ◌++◌, codes, decimal}
use Rattle.sp_spec.specs.Term.{Variable, var}
use Rattle.sp_spec.specs.Rule.{Action, Facts, facts_at, Fact}
use Rattle.sp_spec.specs.Substitution.{bound_to}
use Rattle.sp_spec_system.specs.System.{System}
use Rattle.sp_spec_system.specs.Equating.{action_pair, unifier_of, system_changed, fact_pair}
use Rattle.sp_spec_system.specs.Move.{Case}

-- the system in which two actions are the same
abbrev pub where_same : System → Action Variable → Action Variable → Option System
where_same s a b = option_map (λ bs. system_changed (bound_to bs) (λ i. i) s) (unifier_of (action_pair a b))

abbrev pub case_if : List ℕ → Option System → List Case
case_if name None = []
case_if name (Some s) = record { name = name; system = s } ∷ []

-- a rule's facts over variables of the numbers from next on
abbrev pub renamed : ℕ → Facts Variable → Facts Variable
renamed next facts = facts_at (λ x. var (record { sort = x.sort; number = next + x.number })) facts

abbrev pub system_if : Option System → List System
system_if None = []
system_if (Some s) = s ∷ []

abbrev pub numbered : List ℕ → ℕ → List System → List Case
numbered name k [] = []
numbered name k (s ∷ systems) = record { name = name ++ (codes "_case_" ++ decimal k); system = s } ∷ numbered name (suc k) systems

-- a rule's only case has its name; several are numbered from 1
abbrev pub named : List ℕ → List System → List Case
named name [] = []
named name (s ∷ []) = record { name = name; system = s } ∷ []
named name (s ∷ t ∷ systems) = numbered name 1 (s ∷ t ∷ systems)

abbrev pub where_same_fact : System → Fact Variable → Fact Variable → Option System
where_same_fact s f g = option_map (λ bs. system_changed (bound_to bs) (λ i. i) s) (unifier_of (fact_pair f g))
