-- Lists that are the same are as long as each other.
use Rattle.std.proofs.Common.{◌≡◌, true, List, [], ◌∷◌, length, suc, refl, ap}
use Rattle.std.proofs.lemmas.Bool.{and_parts}
use Rattle.sp_spec.specs.Guarded.{Binder, Atom, Guarded, guardeds_of}
use Rattle.sp_spec.specs.SameFormula.{same_binder, same_binders, same_atom, same_atoms, same_formula, same_formulas}

pub same_binders-length : (bs cs : List Binder) → same_binders bs cs ≡ true → length bs ≡ length cs
same_binders-length [] [] h = refl
same_binders-length [] (c ∷ cs) h = absurd cc
same_binders-length (b ∷ bs) [] h = absurd cc
same_binders-length (b ∷ bs) (c ∷ cs) h = ap suc (same_binders-length bs cs (and_parts (same_binder b c) (same_binders bs cs) h).1)

pub same_atoms-length : (xs ys : List Atom) → same_atoms xs ys ≡ true → length xs ≡ length ys
same_atoms-length [] [] h = refl
same_atoms-length [] (y ∷ ys) h = absurd cc
same_atoms-length (x ∷ xs) [] h = absurd cc
same_atoms-length (x ∷ xs) (y ∷ ys) h = ap suc (same_atoms-length xs ys (and_parts (same_atom x y) (same_atoms xs ys) h).1)

pub same_formulas-length : (fs gs : List Guarded) → same_formulas (guardeds_of fs) (guardeds_of gs) ≡ true → length fs ≡ length gs
same_formulas-length [] [] h = refl
same_formulas-length [] (g ∷ gs) h = absurd cc
same_formulas-length (f ∷ fs) [] h = absurd cc
same_formulas-length (f ∷ fs) (g ∷ gs) h = ap suc (same_formulas-length fs gs (and_parts (same_formula f g) (same_formulas (guardeds_of fs) (guardeds_of gs)) h).1)
