-- The findings on builtins, on symbols, and on the terms of equations, each where its condition holds, from left to right. Source: Tamarin
-- manual, "Cryptographic messages" (built-in theories, user-defined functions) and "Checking well-formedness".
use Rattle.std.specs.Prelude.{ℕ, Bool, true, false, not, ◌&&◌, ◌==◌, nat_lt, if◌then◌else◌, List, [], ◌∷◌, ◌++◌, Option, Some, None}
use Rattle.std.specs.Bool.{beq}
use Rattle.std.specs.Str.{bytes_eq}
use Rattle.sp_spec.specs.Term.{Term}
use Rattle.sp_spec.specs.Signature.{Symbol}
use Rattle.sp_spec.specs.Formula.{Written}
use Rattle.sp_spec_text.specs.Declared.{Builtin, builtin_of}
use Rattle.sp_finding.specs.Finding.{Finding, builtin_left_out, declared_twice, arity_above, told}
use Rattle.sp_finding.specs.TermFindings.{unknown_in}

abbrev pub is_left_out : Option Builtin → Bool
is_left_out None = true
is_left_out (Some b) = false

abbrev pub left_out : List (List ℕ) → List Finding
left_out [] = []
left_out (b ∷ bs) = told (is_left_out (builtin_of b)) (builtin_left_out b) (left_out bs)

abbrev pub is_same_symbol : Symbol → Symbol → Bool
is_same_symbol s t = (s.arity == t.arity) && beq s.private t.private

-- the symbol that has its name is another one
abbrev pub differs : Symbol → List Symbol → Bool
differs s [] = false
differs s (t ∷ symbols) = if bytes_eq t.name s.name then not (is_same_symbol t s) else differs s symbols

abbrev pub declared_otherwise : List Symbol → List Symbol → List Finding
declared_otherwise symbols [] = []
declared_otherwise symbols (s ∷ declared) = told (differs s symbols) (declared_twice s.name) (declared_otherwise symbols declared)

abbrev pub wide_symbols : List Symbol → List Finding
wide_symbols [] = []
wide_symbols (s ∷ symbols) = told (nat_lt 16 s.arity) (arity_above s.name) (wide_symbols symbols)

abbrev pub unknown_in_equations : List Symbol → List (Term Written × Term Written) → List Finding
unknown_in_equations symbols [] = []
unknown_in_equations symbols (e ∷ es) = unknown_in symbols e.0 ++ (unknown_in symbols e.1 ++ unknown_in_equations symbols es)
