-- What is told of the uses of variables in formulas, and where an unguarded variable is looked for.
use Rattle.std.proofs.Common.{◌≡◌, ℕ, Bool, true, false, not, ◌&&◌, if◌then◌else◌, List, [], ◌∷◌, ◌++◌, refl, sym, ap, ap₂, ◌∙◌}
use Rattle.sp_spec.specs.Formula.{Written, Formula, truth, falsity, happens, equals, precedes, not_so, both, either, implies, for_all, for_some}
use Rattle.sp_spec.specs.Signature.{Equation}
use Rattle.sp_walk.specs.Atoms.{collected}
use Rattle.sp_law_guard.specs.GuardedForm.{guarded_form}
use Rattle.sp_law_guard.specs.CheckedForm.{fits, marks_fit}
use Rattle.sp_finding.specs.Finding.{Finding, without_binder, destructor_in_formula, other_sort, mixed_at, told, are_none}
use Rattle.sp_wf_formulas.specs.Atoms.{uses_at}
use Rattle.sp_wf_formulas.specs.FormulaFindings.{formula_has_destructor, Use, uses, is_unbound, is_mixed, unbound_uses, other_uses, mixed_uses, unguarded_at, unguarded_in_lemma}
use Rattle.sp_wf_formulas.specs.Sought.{Kind, unbound, of_other_sort, mixed, sought, is_there}
use Rattle.sp_wf_formulas.specs.Statements.{statement}
use Rattle.sp_guard.specs.Unguarded.{first_unguarded}
use Rattle.sp_finding.proofs.Nothing.{none_single}
use Rattle.sp_wf_formulas.proofs.Using.{sought_both}
use Rattle.sp_wf_formulas.proofs.FormulaClean.{none_other, form_placed}

-- what is told of atoms, one after the other, is what is told of the uses in the formula
pub sought_collected : (k : Kind) (n : List ℕ) (bs : List Written) (f : Formula) → collected (λ cs a. sought k n (uses_at cs a)) bs f ≡ sought k n (uses bs f)
sought_collected k n bs truth = refl
sought_collected k n bs falsity = refl
sought_collected k n bs (happens a i) = refl
sought_collected k n bs (equals t u) = refl
sought_collected k n bs (precedes i j) = refl
sought_collected k n bs (not_so f) = sought_collected k n bs f
sought_collected k n bs (both f g) = ap₂ (λ (xs ys : List Finding). xs ++ ys) (sought_collected k n bs f) (sought_collected k n bs g) ∙ sym (sought_both k n (uses bs f) (uses bs g))
sought_collected k n bs (either f g) = ap₂ (λ (xs ys : List Finding). xs ++ ys) (sought_collected k n bs f) (sought_collected k n bs g) ∙ sym (sought_both k n (uses bs f) (uses bs g))
sought_collected k n bs (implies f g) = ap₂ (λ (xs ys : List Finding). xs ++ ys) (sought_collected k n bs f) (sought_collected k n bs g) ∙ sym (sought_both k n (uses bs f) (uses bs g))
sought_collected k n bs (for_all x f) = sought_collected k n (x ∷ bs) f
sought_collected k n bs (for_some x f) = sought_collected k n (x ∷ bs) f

-- each kind is looked for by its own name too
pub sought_unbound : (n : List ℕ) (us : List Use) → sought unbound n us ≡ unbound_uses n us
sought_unbound n [] = refl
sought_unbound n (u ∷ us) = ap (told (is_unbound u.means) (without_binder n u.variable.name)) (sought_unbound n us)

pub sought_other : (n : List ℕ) (us : List Use) → sought of_other_sort n us ≡ other_uses n us
sought_other n [] = refl
sought_other n (u ∷ us) = ap (told (not (fits u.variable.mark u.means)) (other_sort n u.variable.name)) (sought_other n us)

pub sought_mixed : (n : List ℕ) (us : List Use) → sought mixed n us ≡ mixed_uses n us
sought_mixed n [] = refl
sought_mixed n (u ∷ us) = ap (told (is_mixed u.role u.means) (mixed_at n u.variable.name)) (sought_mixed n us)

-- a formula has a guarded form exactly where its variables have binders and stand for what those bind
pub used_rightly : (n : List ℕ) (f : Formula) → (is_there (guarded_form [] f) && marks_fit [] f) ≡ (are_none (unbound_uses n (uses [] f)) && (are_none (other_uses n (uses [] f)) && are_none (mixed_uses n (uses [] f))))
used_rightly n f =
    ap₂ (λ (a b : Bool). a && b) (form_placed n f) (sym (none_other n [] f)) ∙ reordered (are_none (unbound_uses n (uses [] f))) (are_none (mixed_uses n (uses [] f))) (are_none (other_uses n (uses [] f)))
  where
    reordered : (a b c : Bool) → ((a && b) && c) ≡ (a && (c && b))
    reordered false b c = refl
    reordered true true true = refl
    reordered true true false = refl
    reordered true false true = refl
    reordered true false false = refl

-- where an unguarded variable is looked for, as the code tests it
pub unguarded_told : (es : List Equation) (n : List ℕ) (f : Formula) (b : Bool) → b ≡ (not (formula_has_destructor es f) && (is_there (guarded_form [] f) && marks_fit [] f))
    → unguarded_in_lemma es (statement n f) ≡ (if b then unguarded_at n (first_unguarded f) else [])
unguarded_told es n f b e =
    ap (λ (c : Bool). if c then unguarded_at n (first_unguarded f) else [])
    (sym (e ∙ ap₂ (λ (c d : Bool). c && d) (sym (none_single (formula_has_destructor es f) (destructor_in_formula n))) (used_rightly n f)))
