-- The texts of a row as they are written, one after the other, and the text of its definition.
use Rattle.std.proofs.Common.{◌≡◌, ℕ, Bool, true, false, if◌then◌else◌, List, [], ◌∷◌, ◌++◌, codes, refl, ap}
use Rattle.sp_rule_forms.specs.Text.{behind_first, joined}

-- each text behind a blank or a comma, and a blank at the end
abbrev pub run : Bool → List (List ℕ) → List ℕ
run first [] = codes " "
run first (x ∷ xs) = (if first then codes " " else codes ", ") ++ (x ++ run false xs)

more_run : (xs : List (List ℕ)) → run false xs ≡ behind_first xs
more_run [] = refl
more_run (x ∷ xs) = ap (λ (ys : List ℕ). codes ", " ++ (x ++ ys)) (more_run xs)

pub joined_run : (xs : List (List ℕ)) → run true xs ≡ joined xs
joined_run [] = refl
joined_run (x ∷ xs) = ap (λ (ys : List ℕ). codes " " ++ (x ++ ys)) (more_run xs)
