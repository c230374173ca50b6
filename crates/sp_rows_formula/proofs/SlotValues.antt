-- Values of times that are put into slots in memory, and all values, one after another.
use Rattle.std.proofs.Common.{◌≡◌, ◌≤◌, ◌<◌, ◌==◌, ℕ, zero, suc, Bool, true, false, if◌then◌else◌, List, [], ◌∷◌, ◌++◌, length, Option, Some, None, option_map, refl, sym, ap, ◌∙◌, arith, slice_index_or, slice_set}
use Rattle.std.proofs.lemmas.Bool.{eqb-true, eq-eqb}
use Rattle.sp_spec_formula.specs.Instances.{with_position, put_time}

pub time_past : (slots : List (Option ℕ)) (k i : ℕ) → length slots ≤ k → put_time slots k i ≡ None
time_past [] k i h = refl
time_past (x ∷ slots) zero i h = absurd (omega (arith, h))
time_past (x ∷ slots) (suc k) i h = ap (option_map (λ (ys : List (Option ℕ)). x ∷ ys)) (time_past slots k i (omega (arith, h)))

pub time_there : (slots : List (Option ℕ)) (k i : ℕ) (x : Option ℕ) → k < length slots → x ≡ slice_index_or slots k x
    → put_time slots k i ≡ option_map (λ (y : Option ℕ). slice_set slots k y) (with_position x i)
time_there [] k i x h is = absurd (omega (arith, h))
time_there (y ∷ slots) zero i x h is = ap (λ (z : Option ℕ). option_map (λ (w : Option ℕ). w ∷ slots) (with_position z i)) (sym is)
time_there (y ∷ slots) (suc k) i x h is = ap (option_map (λ (ys : List (Option ℕ)). y ∷ ys)) (time_there slots k i x (omega (arith, h)) is) ∙ behind (with_position x i)
  where
    behind : (p : Option (Option ℕ)) → option_map (λ (ys : List (Option ℕ)). y ∷ ys) (option_map (λ (z : Option ℕ). slice_set slots k z) p) ≡ option_map (λ (z : Option ℕ). slice_set (y ∷ slots) (suc k) z) p
    behind None = refl
    behind (Some z) = refl

-- the same value again changes nothing
stays : (slots : List (Option ℕ)) (k : ℕ) (x : Option ℕ) → k < length slots → x ≡ slice_index_or slots k x → slice_set slots k x ≡ slots
stays [] k x h is = absurd (omega (arith, h))
stays (y ∷ slots) zero x h is = ap (λ (z : Option ℕ). z ∷ slots) is
stays (y ∷ slots) (suc k) x h is = ap (λ (ys : List (Option ℕ)). y ∷ ys) (stays slots k x (omega (arith, h)) is)

pub time_again : (slots : List (Option ℕ)) (k i j : ℕ) → k < length slots → Some j ≡ slice_index_or slots k (Some j) → j ≡ i → put_time slots k i ≡ Some slots
time_again slots k i j h is e =
    time_there slots k i (Some j) h is
    ∙ ap (λ (b : Bool). option_map (λ (y : Option ℕ). slice_set slots k y) (if b then Some (Some j) else None)) (eq-eqb j i e)
    ∙ ap Some (stays slots k (Some j) h is)

pub time_other : (slots : List (Option ℕ)) (k i j : ℕ) → k < length slots → Some j ≡ slice_index_or slots k (Some j) → (j ≡ i → ⊥) → put_time slots k i ≡ None
time_other slots k i j h is n = time_there slots k i (Some j) h is ∙ at (j == i) refl
  where
    at : (b : Bool) → (j == i) ≡ b → option_map (λ (y : Option ℕ). slice_set slots k y) (if b then Some (Some j) else None) ≡ None
    at true e = absurd (n (eqb-true j i e))
    at false e = refl

-- these values, and those of the others
abbrev pub after : {A : Type 0} → List A → Option (List A) → Option (List A)
after {A = A} made o = option_map (λ (rest : List A). made ++ rest) o
