-- A system in memory, one formula of which is spent.
use Rattle.std.proofs.Common.{◌≡◌, ◌<◌, ℕ, zero, suc, List, [], ◌∷◌, ◌++◌, take, drop, length, map, sym, ap, ap₂, ◌∙◌, arith, slice_index_or}
use Rattle.std.proofs.lemmas.List.{map-append, take-map, drop-map, length-map}
use Rattle.sp_spec.specs.Guarded.{Guarded}
use Rattle.sp_spec_system.specs.System as spec
use Rattle.sp_formula.specs.declared.formula.Formula.{Formula}
use Rattle.sp_system.specs.declared.system.System.{System}
use Rattle.sp_formula.specs.FormulaView.{formula_of}
use Rattle.sp_system.specs.SystemView.{system_of}
use Rattle.sp_system.specs.SpendView.{spending_at}

pub as_many : (m s : System) → system_of m ≡ system_of s → length m.formulas.items ≡ length s.formulas.items
as_many m s e = sym (length-map m.formulas.items formula_of) ∙ ap (λ (t : spec.System). length t.formulas) e ∙ length-map s.formulas.items formula_of

pub one_there : (fs : List Formula) (k : ℕ) (f : Formula) → k < length fs → f ≡ slice_index_or fs k f → formula_of f ∷ [] ≡ take 1 (drop k (map formula_of fs))
one_there [] k f h e = absurd (omega (arith, h))
one_there (g ∷ fs) zero f h e = ap (λ (x : Formula). formula_of x ∷ []) e
one_there (g ∷ fs) (suc k) f h e = one_there fs k f (omega (arith, h)) e

put_between : (fs gs : List Formula) (k : ℕ) → map formula_of (take k fs ++ (gs ++ drop (suc k) fs)) ≡ take k (map formula_of fs) ++ (map formula_of gs ++ drop (suc k) (map formula_of fs))
put_between fs gs k =
    map-append formula_of (take k fs) (gs ++ drop (suc k) fs)
    ∙ ap₂ (λ (xs ys : List Guarded). xs ++ ys) (sym (take-map formula_of k fs))
    (map-append formula_of gs (drop (suc k) fs) ∙ ap (λ (xs : List Guarded). map formula_of gs ++ xs) (sym (drop-map formula_of (suc k) fs)))

pub spends_one : (m : System) (fs gs instead spent : List Formula) (k : ℕ) (f : Formula) → formula_of f ∷ [] ≡ take 1 (drop k (map formula_of m.formulas.items)) → gs ≡ instead
    → fs ≡ take k m.formulas.items ++ (gs ++ drop (suc k) m.formulas.items) → spent ≡ m.spent.items ++ f ∷ []
    → (record (system_of m) { formulas = map formula_of fs; spent = map formula_of spent }) ≡ spending_at (system_of m) k (map formula_of instead)
spends_one m fs gs instead spent k f is same built grown =
    let made : List Guarded → List Guarded → spec.System = λ xs ys. record (system_of m) { formulas = xs; spent = ys } in
    ap₂ made
    (ap (map formula_of) built ∙ put_between m.formulas.items gs k
    ∙ ap (λ (xs : List Formula). take k (map formula_of m.formulas.items) ++ (map formula_of xs ++ drop (suc k) (map formula_of m.formulas.items))) same)
    (ap (map formula_of) grown ∙ map-append formula_of m.spent.items (f ∷ []) ∙ ap (λ (xs : List Guarded). map formula_of m.spent.items ++ xs) is)
