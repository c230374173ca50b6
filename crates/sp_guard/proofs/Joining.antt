-- The parts of a conjunction are parted one after the other.
use Rattle.std.proofs.Common.{◌≡◌, refl, sym, ap, ◌∙◌, List, [], ◌∷◌, ◌++◌, map}
use mathlib.Core.List.{map-append}
use Rattle.sp_spec.specs.Guarded.{Atom, acts, same, Guarded, holds}
use Rattle.sp_formula.specs.FormulaView.{formula_of}
use Rattle.sp_formula.specs.declared.formula.Formula.{Formula}
use Rattle.sp_law_guard.specs.GuardedForm.{guard_in, rest_in}

guard_more : (gs hs : List Guarded) → guard_in (gs ++ hs) ≡ guard_in gs ++ guard_in hs
guard_more [] hs = refl
guard_more (holds (acts a i) ∷ gs) hs = ap (λ (xs : List Atom). acts a i ∷ xs) (guard_more gs hs)
guard_more (holds (same t u) ∷ gs) hs = ap (λ (xs : List Atom). same t u ∷ xs) (guard_more gs hs)
guard_more (g ∷ gs) hs = guard_more gs hs

rest_more : (gs hs : List Guarded) → rest_in (gs ++ hs) ≡ rest_in gs ++ rest_in hs
rest_more [] hs = refl
rest_more (holds (acts a i) ∷ gs) hs = rest_more gs hs
rest_more (holds (same t u) ∷ gs) hs = rest_more gs hs
rest_more (g ∷ gs) hs = ap (λ (xs : List Guarded). g ∷ xs) (rest_more gs hs)

pub guard_step : (all : List Formula) (f : Formula) (old new : List Atom) → old ≡ guard_in (map formula_of all) → new ≡ old ++ guard_in (formula_of f ∷ [])
    → new ≡ guard_in (map formula_of (all ++ f ∷ []))
guard_step all f old new e h =
    h ∙ ap (λ (xs : List Atom). xs ++ guard_in (formula_of f ∷ [])) e ∙ sym (guard_more (map formula_of all) (formula_of f ∷ [])) ∙ ap guard_in (sym (map-append formula_of all (f ∷ [])))

pub rest_step : (all : List Formula) (f : Formula) (old new : List Guarded) → old ≡ rest_in (map formula_of all) → new ≡ old ++ rest_in (formula_of f ∷ [])
    → new ≡ rest_in (map formula_of (all ++ f ∷ []))
rest_step all f old new e h =
    h ∙ ap (λ (xs : List Guarded). xs ++ rest_in (formula_of f ∷ [])) e ∙ sym (rest_more (map formula_of all) (formula_of f ∷ [])) ∙ ap rest_in (sym (map-append formula_of all (f ∷ [])))
