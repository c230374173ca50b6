-- The move on a message variable: what stands for it is a public name, a fresh one, or a symbol over messages. Source: this project's own (in CSF 2012 a message may be anything).
use Rattle.std.specs.Prelude.{ℕ, ◌+◌, Bool, if◌then◌else◌, List, [], ◌∷◌, map, Option, Some, None, codes}
use Rattle.std.specs.List.{list_any}
use Rattle.sp_spec.specs.Term.{Sort, Msg, Fresh, Pub, Variable, Term, var, app}
use Rattle.sp_spec.specs.Signature.{Symbol}
use Rattle.sp_spec.specs.Same.{same_variable}
use Rattle.sp_spec.specs.Substitution.{bound_to}
use Rattle.sp_spec_system.specs.System.{System, with_next}
use Rattle.sp_spec_system.specs.Equating.{system_changed}
use Rattle.sp_spec_system.specs.Occurring.{variables_in}
use Rattle.sp_spec_system.specs.Head.{new_variables}
use Rattle.sp_spec_system.specs.Move.{Case}

abbrev pub of_number : Sort → ℕ → Variable
of_number sort k = record { sort = sort; number = k }

abbrev pub has_variable : System → Variable → Bool
has_variable s x = list_any (same_variable x) (variables_in s)

-- the term for the variable throughout; it has so many new variables
abbrev pub with_term_for : System → Variable → Term Variable → ℕ → System
with_term_for s x t n = with_next (system_changed (bound_to ((x, t) ∷ [])) (λ i. i) s) (s.next + n)

abbrev pub by_name : System → ℕ → Sort → System
by_name s k sort = with_term_for s (of_number Msg k) (var (of_number sort s.next)) 1

-- private ones too
abbrev pub by_symbol : System → ℕ → Symbol → Case
by_symbol s k symbol =
    record { name = symbol.name; system = with_term_for s (of_number Msg k) (app symbol.name (new_variables symbol.arity s.next)) symbol.arity }

abbrev pub top_cases : List Symbol → System → ℕ → Option (List Case)
top_cases symbols s k =
    if has_variable s (of_number Msg k)
    then Some (record { name = codes "pub"; system = by_name s k Pub } ∷ record { name = codes "fresh"; system = by_name s k Fresh } ∷ map (by_symbol s k) symbols)
    else None
