-- Equations that are declared one after the other.
use Rattle.std.specs.Prelude.{ℕ, List, ◌++◌}
use Rattle.std.specs.List.{flat_map}
use Rattle.sp_spec.specs.Signature.{Equation}
use Rattle.sp_spec_text.specs.Declared.{Numbered, their_equations, new_equations, builtin_of, builtin_equations}

-- these, and behind them those that are new
abbrev pub added_after : List Numbered → List Numbered → List Numbered
added_after before more = before ++ new_equations (their_equations before) more

-- those of builtins
abbrev pub equations_named : List (List ℕ) → List Equation
equations_named names = flat_map (λ b. builtin_equations (builtin_of b)) names
