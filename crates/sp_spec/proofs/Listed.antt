-- Names that stand in a list.
use Rattle.std.proofs.Common.{◌≡◌, ⊎_elim, ℕ, Bool, true, false, if◌then◌else◌, List, [], ◌∷◌, ◌++◌, refl}
use Rattle.std.proofs.lemmas.Bool.{or_cases, or_left, or_right}
use Rattle.std.proofs.lemmas.Slice.Eq.{bytes_eq-Decides}
use Rattle.std.specs.Str.{bytes_eq}
use Rattle.sp_spec.specs.Lists.{Member, is_listed}

pub equal_names : (x : List ℕ) → bytes_eq x x ≡ true
equal_names x = (bytes_eq-Decides x x).1 refl

pub listed_append : (x : List ℕ) (xs ys : List (List ℕ)) → is_listed x xs ≡ true → is_listed x (xs ++ ys) ≡ true
listed_append x [] ys e = absurd cc
listed_append x (z ∷ xs) ys e =
    ⊎_elim (λ h. or_left (bytes_eq z x) (is_listed x (xs ++ ys)) h) (λ h. or_right (bytes_eq z x) (is_listed x (xs ++ ys)) (listed_append x xs ys h))
    (or_cases (bytes_eq z x) (is_listed x xs) e)

pub listed_last : (x : List ℕ) (xs : List (List ℕ)) → is_listed x (xs ++ x ∷ []) ≡ true
listed_last x [] = or_left (bytes_eq x x) false (equal_names x)
listed_last x (z ∷ xs) = or_right (bytes_eq z x) (is_listed x (xs ++ x ∷ [])) (listed_last x xs)

pub listed_member : (x : List ℕ) (xs : List (List ℕ)) → Member x xs → is_listed x xs ≡ true
listed_member x [] m = absurd m
listed_member x (z ∷ xs) m =
    ⊎_elim (λ e. or_left (bytes_eq z x) (is_listed x xs) ((bytes_eq-Decides z x).1 e)) (λ n. or_right (bytes_eq z x) (is_listed x xs) (listed_member x xs n)) m

-- ---- a list to which a name is added where it isn't there

-- what stands in it stays
pub listed_then : (b : Bool) (x y : List ℕ) (xs : List (List ℕ)) → is_listed x xs ≡ true → is_listed x (if b then xs else xs ++ y ∷ []) ≡ true
listed_then true x y xs e = e
listed_then false x y xs e = listed_append x xs (y ∷ []) e

-- the name stands in it then
pub listed_now : (b : Bool) (x : List ℕ) (xs : List (List ℕ)) → is_listed x xs ≡ b → is_listed x (if b then xs else xs ++ x ∷ []) ≡ true
listed_now true x xs e = e
listed_now false x xs e = listed_last x xs
