-- The values that are given to a rule's variables by their names.
use Rattle.std.specs.Prelude.{◌≡◌, ℕ, suc, ◌==◌, if◌then◌else◌, List, [], ◌∷◌, length, Option, Some, None, option_map, option_and_then}
use Rattle.std.specs.Str.{bytes_eq}
use Rattle.sp_spec.specs.Lists.{Every}
use Rattle.sp_spec.specs.Term.{Variable, Ground, Values}
use Rattle.sp_spec.specs.Rule.{Declared}
use Rattle.sp_law_equal.specs.Matching.{Bound}

-- the variable that is declared at this number
abbrev pub variable_at : ℕ → Declared → Variable
variable_at k d = record { sort = d.sort; number = k }

-- the first value that is given to the name
abbrev pub given_value : List ℕ → List (List ℕ × Ground) → Option Ground
given_value x [] = None
given_value x (g ∷ given) = if bytes_eq g.0 x then Some g.1 else given_value x given

-- each variable with its value, the first of them of this number
abbrev pub bound_from : ℕ → List Declared → List (List ℕ × Ground) → Option (List Bound)
bound_from k [] given = Some []
bound_from k (d ∷ ds) given = option_and_then (λ t. option_map (λ bs. (variable_at k d, t) ∷ bs) (bound_from (suc k) ds given)) (given_value d.name given)

-- there are as many values as variables, and one for each
abbrev pub bound_by : List Declared → List (List ℕ × Ground) → Option (List Bound)
bound_by ds given = if length ds == length given then bound_from 0 ds given else None

-- the values that are given are those of the function
abbrev pub AgreeWith : Values → List Bound → Type 0
AgreeWith v bs = Every (λ (b : Bound). v b.0 ≡ b.1) bs
