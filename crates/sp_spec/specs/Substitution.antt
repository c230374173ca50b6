-- Substitutions, as lists of bindings.
use Rattle.std.specs.Prelude.{◌≡◌, List, [], ◌∷◌, ◌++◌, map, Option, Some, None, unwrap_or, if◌then◌else◌}
use Rattle.sp_spec.specs.Term.{Variable, Term, var, Values, valued}
use Rattle.sp_spec.specs.Same.{same_variable}

abbrev pub Binding : Type 0
Binding = Variable × Term Variable

-- what the first binding of a variable gives it
abbrev pub lookup : {V : Type 0} → List (Variable × Term V) → Variable → Option (Term V)
lookup [] x = None
lookup (b ∷ bs) x = if same_variable b.0 x then Some b.1 else lookup bs x

-- a variable without a binding stays
abbrev pub bound_to : List Binding → Variable → Term Variable
bound_to bs x = unwrap_or (lookup bs x) (var x)

-- first the one list of bindings, then the other
abbrev pub followed_by : List Binding → List Binding → List Binding
followed_by bs cs = map (λ (b : Binding). (b.0, valued (bound_to cs) b.1)) bs ++ cs

-- the substitution changes no value: each variable has the value of what it is bound to
abbrev pub Fixes : Values → List Binding → Type 0
Fixes v bs = (x : Variable) → v x ≡ valued v (bound_to bs x)
