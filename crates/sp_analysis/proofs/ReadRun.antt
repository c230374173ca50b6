-- Lemmas that were read, of which some are run.
use Rattle.std.proofs.Common.{◌≡◌, ℕ, Bool, true, false, if◌then◌else◌, List, [], ◌∷◌, ◌++◌, map, Option, Some, refl, sym, ap, ◌∙◌, append_assoc, append-nil}
use Rattle.sp_spec.specs.Guarded.{Guarded}
use Rattle.sp_law_guard.specs.CheckedForm.{checked_form}
use Rattle.sp_read_parts.specs.Formulas.{formula}
use Rattle.sp_written.specs.declared.theory.WrittenLemma.{WrittenLemma}
use Rattle.sp_pose.specs.Asked.{Asked, asked_with}
use Rattle.sp_pose.proofs.Forms.{AreForms, asked_list}
use Rattle.sp_analysis.specs.Chosen.{is_run}
use Rattle.sp_analysis.specs.Printed.{run_if, asked_run}

abbrev pub read_run : Option (List ℕ) → List WrittenLemma → List WrittenLemma
read_run chosen [] = []
read_run chosen (l ∷ ls) = if is_run chosen l.name.now then l ∷ read_run chosen ls else read_run chosen ls

-- and their forms
abbrev pub forms_run : Option (List ℕ) → List WrittenLemma → List Guarded → List Guarded
forms_run chosen [] gs = []
forms_run chosen (l ∷ ls) [] = []
forms_run chosen (l ∷ ls) (g ∷ gs) = if is_run chosen l.name.now then g ∷ forms_run chosen ls gs else forms_run chosen ls gs

one_formed : (l : WrittenLemma) (g : Guarded) (ls : List WrittenLemma) (gs : List Guarded) (b : Bool) → checked_form (formula l.formula) ≡ Some g → AreForms ls gs
    → AreForms (if b then l ∷ ls else ls) (if b then g ∷ gs else gs)
one_formed l g ls gs true e h = (e, h)
one_formed l g ls gs false e h = h

pub are_formed : (chosen : Option (List ℕ)) (ls : List WrittenLemma) (gs : List Guarded) → AreForms ls gs → AreForms (read_run chosen ls) (forms_run chosen ls gs)
are_formed chosen [] [] h = tt
are_formed chosen [] (g ∷ gs) h = absurd h
are_formed chosen (l ∷ ls) [] h = absurd h
are_formed chosen (l ∷ ls) (g ∷ gs) h = one_formed l g (read_run chosen ls) (forms_run chosen ls gs) (is_run chosen l.name.now) h.0 (are_formed chosen ls gs h.1)

one_listed : (l : WrittenLemma) (g : Guarded) (ls : List WrittenLemma) (gs : List Guarded) (rest : List Asked) (b : Bool) → rest ≡ asked_list ls gs
    → (if b then asked_with l g ∷ [] else []) ++ rest ≡ asked_list (if b then l ∷ ls else ls) (if b then g ∷ gs else gs)
one_listed l g ls gs rest true e = ap (λ (as' : List Asked). asked_with l g ∷ as') e
one_listed l g ls gs rest false e = e

-- what is asked of them
pub listed_run : (chosen : Option (List ℕ)) (ls : List WrittenLemma) (gs : List Guarded) → AreForms ls gs → asked_run chosen (asked_list ls gs) ≡ asked_list (read_run chosen ls) (forms_run chosen ls gs)
listed_run chosen [] [] h = refl
listed_run chosen [] (g ∷ gs) h = absurd h
listed_run chosen (l ∷ ls) [] h = absurd h
listed_run chosen (l ∷ ls) (g ∷ gs) h =
    one_listed l g (read_run chosen ls) (forms_run chosen ls gs) (asked_run chosen (asked_list ls gs)) (is_run chosen l.name.now) (listed_run chosen ls gs h.1)

-- the names of those that are asked for
pub names_listed : (ls : List WrittenLemma) (gs : List Guarded) → AreForms ls gs → map (λ (a : Asked). a.name) (asked_list ls gs) ≡ map (λ (l : WrittenLemma). l.name.now) ls
names_listed [] [] h = refl
names_listed [] (g ∷ gs) h = absurd h
names_listed (l ∷ ls) [] h = absurd h
names_listed (l ∷ ls) (g ∷ gs) h = ap (λ (names : List (List ℕ)). l.name.now ∷ names) (names_listed ls gs h.1)

-- ---- one lemma more is looked at

-- at the end of those that were looked at
run_more : (chosen : Option (List ℕ)) (as' : List Asked) (a : Asked) → asked_run chosen (as' ++ a ∷ []) ≡ asked_run chosen as' ++ run_if chosen a
run_more chosen [] a = append-nil (run_if chosen a)
run_more chosen (x ∷ as') a = ap (λ (rest : List Asked). run_if chosen x ++ rest) (run_more chosen as' a) ∙ sym (append_assoc (run_if chosen x) (asked_run chosen as') (run_if chosen a))

pub then_run : (chosen : Option (List ℕ)) (as' out more : List Asked) (a : Asked) → out ≡ asked_run chosen as' → more ≡ out ++ run_if chosen a → more ≡ asked_run chosen (as' ++ a ∷ [])
then_run chosen as' out more a so is = is ∙ ap (λ (xs : List Asked). xs ++ run_if chosen a) so ∙ sym (run_more chosen as' a)
