-- The findings on equations, by their numbers. Source: Tamarin manual, "Cryptographic messages" (user-defined functions and equations).
use Rattle.std.specs.Prelude.{Bool, false, not, ◌&&◌, List, [], ◌∷◌, ◌++◌, if◌then◌else◌, Option, Some, None}
use Rattle.sp_spec.specs.Term.{valued}
use Rattle.sp_spec.specs.Same.{alike}
use Rattle.sp_spec.specs.Signature.{Symbol, Equation}
use Rattle.sp_spec.specs.Substitution.{Binding, bound_to}
use Rattle.sp_spec.specs.Unifier.{mgu}
use Rattle.sp_spec_text.specs.Declared.{Numbered, their_equations}
use Rattle.sp_spec_forms.specs.Shifted.{shifted}
use Rattle.sp_law_conv.specs.Clash.{apart, overlap}
use Rattle.sp_conv.specs.Tests.{is_well_formed, has_private_constant}
use Rattle.sp_finding.specs.Finding.{Finding, wrong_shape, private_constant, clash, told, are_none}

abbrev pub shapes : List Symbol → List Equation → List Numbered → List Finding
shapes symbols es [] = []
shapes symbols es (e ∷ rest) =
    told (not (is_well_formed symbols es e.1) && not (has_private_constant symbols es e.1)) (wrong_shape e.0) (shapes symbols es rest)

abbrev pub private_constants : List Symbol → List Equation → List Numbered → List Finding
private_constants symbols es [] = []
private_constants symbols es (e ∷ rest) = told (has_private_constant symbols es e.1) (private_constant e.0) (private_constants symbols es rest)

-- the right sides differ under the unifier of the left sides
abbrev pub differ_by : Equation → Equation → Option (List Binding) → Bool
differ_by d e None = false
differ_by d e (Some bs) = not (alike (valued (bound_to bs) d.right) (valued (bound_to bs) (shifted (apart d) e.right)))

abbrev pub do_clash : Equation → Equation → Bool
do_clash d e = differ_by d e (mgu (overlap d e))

abbrev pub clashes_with : Numbered → List Numbered → List Finding
clashes_with d [] = []
clashes_with d (e ∷ rest) = told (do_clash d.1 e.1) (clash d.0 e.0) (clashes_with d rest)

abbrev pub clashes : List Numbered → List Finding
clashes [] = []
clashes (d ∷ rest) = clashes_with d rest ++ clashes rest

-- clashes are looked for where each equation is as it should be by itself
abbrev pub findings_on_equations : List Symbol → List Numbered → List Finding
findings_on_equations symbols numbered =
    let es : List Equation = their_equations numbered in
    shapes symbols es numbered ++ (private_constants symbols es numbered
    ++ (if are_none (shapes symbols es numbered) && are_none (private_constants symbols es numbered) then clashes numbered else []))
