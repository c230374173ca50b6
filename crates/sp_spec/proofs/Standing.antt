-- A name that stands goes on standing, and isn't put there again.
use Rattle.std.proofs.Common.{◌≡◌, ℕ, Bool, true, if◌then◌else◌, List, [], ◌∷◌, ◌++◌, refl, ap, ◌∙◌}
use Rattle.sp_spec.specs.Lists.{Every, is_listed}
use Rattle.sp_spec.specs.Constants.{once_after}
use Rattle.sp_spec.proofs.Listed.{listed_then, listed_now}

abbrev pub Stands : List (List ℕ) → List ℕ → Type 0
Stands ls x = is_listed x ls ≡ true

kept_standing : (x : List ℕ) (ys ls : List (List ℕ)) → is_listed x ls ≡ true → is_listed x (once_after ls ys) ≡ true
kept_standing x [] ls e = e
kept_standing x (y ∷ ys) ls e = kept_standing x ys (if is_listed y ls then ls else ls ++ y ∷ []) (listed_then (is_listed y ls) x y ls e)

pub all_stand : (xs ls : List (List ℕ)) → Every (Stands (once_after ls xs)) xs
all_stand [] ls = tt
all_stand (x ∷ xs) ls =
    let now = if is_listed x ls then ls else ls ++ x ∷ [] in
    (kept_standing x xs now (listed_now (is_listed x ls) x ls refl), all_stand xs now)

pub not_again : (xs ls : List (List ℕ)) → Every (Stands ls) xs → once_after ls xs ≡ ls
not_again [] ls h = refl
not_again (x ∷ xs) ls h = ap (λ (b : Bool). once_after (if b then ls else ls ++ x ∷ []) xs) h.0 ∙ not_again xs ls h.1
