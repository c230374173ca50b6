-- The tests that the code makes of symbols and equations.
use Rattle.std.specs.Prelude.{ℕ, Bool, not, ◌&&◌, if◌then◌else◌, List, []}
use Rattle.std.specs.List.{flat_map}
use Rattle.sp_spec.specs.Signature.{Symbol, Equation}
use Rattle.sp_spec_text.specs.Declared.{Numbered, builtin_of, builtin_symbols}
use Rattle.sp_conv.specs.Tests.{is_well_formed, has_private_constant}
use Rattle.sp_finding.specs.Finding.{Finding, are_none}
use Rattle.sp_wf_symbols.specs.SymbolFindings.{declared_otherwise}
use Rattle.sp_wf_symbols.specs.EquationFindings.{shapes, private_constants, clashes}

-- the symbols of these builtins that are declared in another way
abbrev pub otherwise_named : List Symbol → List (List ℕ) → List Finding
otherwise_named symbols names = declared_otherwise symbols (flat_map (λ b. builtin_symbols (builtin_of b)) names)

-- the equation, one of these, is of the form that is asked for, and its right side is no constant that is private
abbrev pub is_formed : List Symbol → List Equation → Equation → Bool
is_formed symbols es e = not (not (is_well_formed symbols es e) && not (has_private_constant symbols es e)) && not (has_private_constant symbols es e)

-- clashes, where each equation is as it should be by itself
abbrev pub clashes_if_formed : List Symbol → List Equation → List Numbered → List Finding
clashes_if_formed symbols es numbered = if are_none (shapes symbols es numbered) && are_none (private_constants symbols es numbered) then clashes numbered else []
