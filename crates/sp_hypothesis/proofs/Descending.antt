-- The times that binders bind are said to be the last, or not to be, by their places from the greatest on.
use Rattle.std.proofs.Common.{◌≡◌, refl, sym, ap, ◌∙◌, ℕ, zero, suc, List, [], ◌∷◌, ◌++◌, map, append_assoc}
use mathlib.Core.List.{map-append}
use Rattle.sp_spec.specs.Guarded.{bound_time, Binder, message, time, Atom, last, Guarded, holds, fails}
use Rattle.sp_formula.specs.FormulaView.{atom_of, formula_step, formula_of}
use Rattle.sp_formula.specs.declared.formula.Atom as memory_atom
use Rattle.sp_formula.specs.declared.formula.Formula.{Formula}
use Rattle.sp_formula.specs.declared.formula.Formula.TheVariants.{Holds, rolls-Holds, Fails, rolls-Fails}
use Rattle.sp_formula.specs.declared.formula.Formula.TheOpen.{Formula-F}
use Rattle.sp_formula.specs.declared.formula.Formula.TheFolds.{fold-roll-Formula}
use Rattle.sp_law_truth.specs.Shown.{times_within}
use Rattle.sp_law_induction.specs.Hypothesis.{lasts, not_lasts}
use Rattle.sp_hypothesis.specs.Descending.{descending}

one_more : (bs : List Binder) (n : ℕ) → times_within bs (suc n) ≡ suc (times_within bs n)
one_more [] n = refl
one_more (message sort ∷ bs) n = one_more bs n
one_more (time ∷ bs) n = one_more bs (suc n)

pub lasts_descend : (bs : List Binder) → descending holds (times_within bs zero) ≡ lasts bs
lasts_descend [] = refl
lasts_descend (message sort ∷ bs) = lasts_descend bs
lasts_descend (time ∷ bs) = ap (descending holds) (one_more bs zero) ∙ ap (λ (gs : List Guarded). holds (last (bound_time (times_within bs zero))) ∷ gs) (lasts_descend bs)

pub not_lasts_descend : (bs : List Binder) → descending fails (times_within bs zero) ≡ not_lasts bs
not_lasts_descend [] = refl
not_lasts_descend (message sort ∷ bs) = not_lasts_descend bs
not_lasts_descend (time ∷ bs) = ap (descending fails) (one_more bs zero) ∙ ap (λ (gs : List Guarded). fails (last (bound_time (times_within bs zero))) ∷ gs) (not_lasts_descend bs)

pub holds_shown : (a : memory_atom.Atom) → formula_of (Holds a) ≡ holds (atom_of a)
holds_shown a = ap formula_of (sym (rolls-Holds a)) ∙ fold-roll-Formula Guarded formula_step (Formula-F.Holds a)

pub fails_shown : (a : memory_atom.Atom) → formula_of (Fails a) ≡ fails (atom_of a)
fails_shown a = ap formula_of (sym (rolls-Fails a)) ∙ fold-roll-Formula Guarded formula_step (Formula-F.Fails a)

-- the next one is put behind those that stand
pub next_stands : (literal : Atom → Guarded) (k next : ℕ) → k ≡ suc next → (fs : List Formula) (f : Formula) (made : List Formula) (all : List Guarded)
    → made ≡ fs ++ f ∷ [] → formula_of f ≡ literal (last (bound_time next)) → map formula_of fs ++ descending literal k ≡ all → map formula_of made ++ descending literal next ≡ all
next_stands literal k next n fs f made all e is h =
    ap (λ (gs : List Formula). map formula_of gs ++ descending literal next) e
    ∙ ap (λ (gs : List Guarded). gs ++ descending literal next) (map-append formula_of fs (f ∷ []))
    ∙ append_assoc (map formula_of fs) (formula_of f ∷ []) (descending literal next)
    ∙ ap (λ (g : Guarded). map formula_of fs ++ g ∷ descending literal next) is
    ∙ ap (λ (m : ℕ). map formula_of fs ++ descending literal m) (sym n)
    ∙ h
