-- What is told of the terms of formulas is what is told of their atoms.
use Rattle.std.proofs.Common.{◌≡◌, Bool, ◌||◌, List, [], ◌∷◌, ◌++◌, refl, ap₂}
use Rattle.sp_spec.specs.Signature.{Symbol, Equation}
use Rattle.sp_spec.specs.Formula.{Written, Formula, truth, falsity, happens, equals, precedes, not_so, both, either, implies, for_all, for_some}
use Rattle.sp_walk.specs.Atoms.{any_atom, collected}
use Rattle.sp_finding.specs.Finding.{Finding}
use Rattle.sp_wf_formulas.specs.FormulaFindings.{unknown_in_formula, formula_has_destructor, wide_in}
use Rattle.sp_wf_formulas.specs.Atoms.{too_wide, unknown, on_atom, on_terms, atom_has_destructor}

wide_within : (bs : List Written) (f : Formula) → collected (λ cs. on_atom too_wide) bs f ≡ wide_in f
wide_within bs truth = refl
wide_within bs falsity = refl
wide_within bs (happens a i) = refl
wide_within bs (equals t u) = refl
wide_within bs (precedes i j) = refl
wide_within bs (not_so f) = wide_within bs f
wide_within bs (both f g) = ap₂ (λ (xs ys : List Finding). xs ++ ys) (wide_within bs f) (wide_within bs g)
wide_within bs (either f g) = ap₂ (λ (xs ys : List Finding). xs ++ ys) (wide_within bs f) (wide_within bs g)
wide_within bs (implies f g) = ap₂ (λ (xs ys : List Finding). xs ++ ys) (wide_within bs f) (wide_within bs g)
wide_within bs (for_all x f) = wide_within (x ∷ bs) f
wide_within bs (for_some x f) = wide_within (x ∷ bs) f

pub wide_told : (f : Formula) → on_terms too_wide f ≡ wide_in f
wide_told f = wide_within [] f

module _ (symbols : List Symbol) where
  unknown_within : (bs : List Written) (f : Formula) → collected (λ cs. on_atom (unknown symbols)) bs f ≡ unknown_in_formula symbols f
  unknown_within bs truth = refl
  unknown_within bs falsity = refl
  unknown_within bs (happens a i) = refl
  unknown_within bs (equals t u) = refl
  unknown_within bs (precedes i j) = refl
  unknown_within bs (not_so f) = unknown_within bs f
  unknown_within bs (both f g) = ap₂ (λ (xs ys : List Finding). xs ++ ys) (unknown_within bs f) (unknown_within bs g)
  unknown_within bs (either f g) = ap₂ (λ (xs ys : List Finding). xs ++ ys) (unknown_within bs f) (unknown_within bs g)
  unknown_within bs (implies f g) = ap₂ (λ (xs ys : List Finding). xs ++ ys) (unknown_within bs f) (unknown_within bs g)
  unknown_within bs (for_all x f) = unknown_within (x ∷ bs) f
  unknown_within bs (for_some x f) = unknown_within (x ∷ bs) f

  pub unknown_told : (f : Formula) → on_terms (unknown symbols) f ≡ unknown_in_formula symbols f
  unknown_told f = unknown_within [] f

-- destructors, which are told of a formula as a whole
pub any_destructor : (es : List Equation) (f : Formula) → any_atom (atom_has_destructor es) f ≡ formula_has_destructor es f
any_destructor es truth = refl
any_destructor es falsity = refl
any_destructor es (happens a i) = refl
any_destructor es (equals t u) = refl
any_destructor es (precedes i j) = refl
any_destructor es (not_so f) = any_destructor es f
any_destructor es (both f g) = ap₂ (λ (a b : Bool). a || b) (any_destructor es f) (any_destructor es g)
any_destructor es (either f g) = ap₂ (λ (a b : Bool). a || b) (any_destructor es f) (any_destructor es g)
any_destructor es (implies f g) = ap₂ (λ (a b : Bool). a || b) (any_destructor es f) (any_destructor es g)
any_destructor es (for_all x f) = any_destructor es f
any_destructor es (for_some x f) = any_destructor es f
