-- Symbols that are declared one after the other.
use Rattle.std.specs.Prelude.{ℕ, List, ◌++◌, map}
use Rattle.std.specs.List.{flat_map}
use Rattle.sp_spec.specs.Signature.{Symbol}
use Rattle.sp_spec_text.specs.Declared.{new_symbols, builtin_of, builtin_symbols}

-- these, and behind them those that are new
abbrev pub declared_after : List Symbol → List Symbol → List Symbol
declared_after before more = before ++ new_symbols before more

-- those of builtins
abbrev pub symbols_named : List (List ℕ) → List Symbol
symbols_named names = flat_map (λ b. builtin_symbols (builtin_of b)) names

-- the names of symbols
abbrev pub names_of : List Symbol → List (List ℕ)
names_of symbols = map (λ (s : Symbol). s.name) symbols
