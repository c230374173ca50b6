-- The parts of a formula in memory, and those of a disjunction of which one is left out.
use Rattle.std.proofs.Common.{◌≡◌, ◌<◌, ℕ, ◌+◌, List, [], ◌∷◌, length, map, Bool, true, false, if◌then◌else◌, Option, Some, None, option_map, is_some, refl, sym, ap, ◌∙◌, subst, arith, slice_index_or}
use Rattle.std.specs.Global.{Vec}
use Rattle.std.specs.List.{remove}
use Rattle.std.proofs.lemmas.List.{length-map}
use Rattle.sp_spec.specs.Guarded.{Guarded, truth, falsity, holds, fails, all_of, one_of, some, every, Guardeds, and_then, guardeds_of}
use Rattle.sp_formula.specs.declared.formula.Formula.{Formula}
use Rattle.sp_formula.specs.declared.formula.Formula.TheVariants.{OneOf}
use Rattle.sp_formula.specs.FormulaView.{formula_of}
use Rattle.sp_formula.proofs.Formulas.{one_shown}
use Rattle.sp_spec_formula.specs.Split.{is_falsity}
use Rattle.sp_spec_formula.specs.Disjunction.{without_false, disjunction_of}
use Rattle.sp_rows_formula.specs.RowsView.{position_at, position_of}
use Rattle.sp_rows_formula.specs.PartsView.{false_of}
use Rattle.sp_merge.proofs.Merges.{cut, cut_map}
use Rattle.sp_rows_formula.proofs.Searches.{IsLeft, left_other, left_stands, place_within}

seen : (f : Guarded) (b : Bool) → is_falsity f ≡ b → is_some (false_of f) ≡ b
seen f b e = ap (λ (d : Bool). is_some (let o : Option Guarded = if d then Some f else None in o)) e ∙ at b
  where
    at : (d : Bool) → is_some (let o : Option Guarded = if d then Some f else None in o) ≡ d
    at true = refl
    at false = refl

pub false_more : (fs : List Formula) (i : ℕ) (f : Formula) → i < length fs → f ≡ slice_index_or fs i f → is_falsity (formula_of f) ≡ false → IsLeft false_of fs i → IsLeft false_of fs (i + 1)
false_more fs i f h is e left = left_other false_of fs i f h is (seen (formula_of f) false e) left

pub false_found : (fs : List Formula) (i : ℕ) (f : Formula) → i < length fs → f ≡ slice_index_or fs i f → is_falsity (formula_of f) ≡ true → IsLeft false_of fs i
    → Some i ≡ option_map (λ p. p.0) (position_of false_of (map formula_of fs))
false_found fs i f h is e left = left_stands false_of fs i f h is (seen (formula_of f) true e) left

step : (f : Guarded) (fs : Guardeds) → without_false (and_then f fs) ≡ (if is_falsity f then Some fs else option_map (and_then f) (without_false fs))
step truth fs = refl
step falsity fs = refl
step (holds a) fs = refl
step (fails a) fs = refl
step (all_of gs) fs = refl
step (one_of gs) fs = refl
step (some bs guard g) fs = refl
step (every bs guard g) fs = refl

one_left : (g : Guarded) (gs : List Guarded) (b : Bool) (o : Option (ℕ × Guarded)) → without_false (guardeds_of gs) ≡ option_map (λ k. guardeds_of (cut k gs)) (option_map (λ p. p.0) o)
    → (if b then Some (guardeds_of gs) else option_map (and_then g) (without_false (guardeds_of gs)))
    ≡ option_map (λ k. guardeds_of (cut k (g ∷ gs))) (option_map (λ p. p.0) (position_at (if b then Some g else None) o))
unfolding cut
one_left g gs true o h = refl
one_left g gs false None h = ap (option_map (and_then g)) h
one_left g gs false (Some p) h = ap (option_map (and_then g)) h

left_out : (gs : List Guarded) → without_false (guardeds_of gs) ≡ option_map (λ k. guardeds_of (cut k gs)) (option_map (λ p. p.0) (position_of false_of gs))
unfolding cut
left_out [] = refl
left_out (g ∷ gs) = step g (guardeds_of gs) ∙ one_left g gs (is_falsity g) (position_of false_of gs) (left_out gs)

pub nothing_left : (parts : List Formula) → None ≡ option_map (λ p. p.0) (position_of false_of (map formula_of parts)) → None ≡ without_false (guardeds_of (map formula_of parts))
nothing_left parts e = ap (option_map (λ k. guardeds_of (cut k (map formula_of parts)))) e ∙ sym (left_out (map formula_of parts))

pub kept_left : (parts copied left : List Formula) (k : ℕ) → Some k ≡ option_map (λ p. p.0) (position_of false_of (map formula_of parts)) → map formula_of copied ≡ map formula_of parts
    → left ≡ remove copied k → Some (guardeds_of (map formula_of left)) ≡ without_false (guardeds_of (map formula_of parts))
unfolding cut
kept_left parts copied left k e copies removed =
    ap (λ (fs : List Formula). Some (guardeds_of (map formula_of fs))) removed
    ∙ ap (λ (xs : List Guarded). Some (guardeds_of xs)) (cut_map formula_of k copied ∙ ap (cut k) copies)
    ∙ ap (option_map (λ j. guardeds_of (cut j (map formula_of parts)))) e ∙ sym (left_out (map formula_of parts))

pub false_within : (parts copied : List Formula) (k : ℕ) → Some k ≡ option_map (λ p. p.0) (position_of false_of (map formula_of parts)) → map formula_of copied ≡ map formula_of parts → k < length copied
false_within parts copied k e copies =
    subst (λ (n : ℕ). k < n) (ap (length {A = Guarded}) (sym copies) ∙ length-map copied formula_of) (place_within false_of (map formula_of parts) k (sym e))

pub none_of : (fs : List Formula) → length fs ≡ 0 → falsity ≡ disjunction_of (guardeds_of (map formula_of fs))
none_of [] e = refl
none_of (f ∷ fs) e = absurd (omega (arith, e))

pub one_alone : (fs : List Formula) (f : Formula) → length fs ≡ 1 → f ≡ slice_index_or fs 0 f → formula_of f ≡ disjunction_of (guardeds_of (map formula_of fs))
one_alone [] f e is = absurd (omega (arith, e))
one_alone (g ∷ []) f e is = ap formula_of is
one_alone (g ∷ h ∷ fs) f e is = absurd (omega (arith, e))

pub several : (fs : Vec Formula) → (length fs.items ≡ 0 → ⊥) → (length fs.items ≡ 1 → ⊥) → formula_of (OneOf fs) ≡ disjunction_of (guardeds_of (map formula_of fs.items))
several fs some_one two = one_shown fs ∙ at fs.items some_one two
  where
    at : (gs : List Formula) → (length gs ≡ 0 → ⊥) → (length gs ≡ 1 → ⊥) → one_of (guardeds_of (map formula_of gs)) ≡ disjunction_of (guardeds_of (map formula_of gs))
    at [] a b = absurd (a refl)
    at (g ∷ []) a b = absurd (b refl)
    at (g ∷ h ∷ rest) a b = refl
