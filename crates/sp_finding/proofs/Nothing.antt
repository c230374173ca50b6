-- Lists of findings in which nothing stands.
use Rattle.std.proofs.Common.{◌≡◌, Bool, true, false, not, ◌&&◌, ◌||◌, List, [], ◌∷◌, ◌++◌, refl}
use Rattle.sp_finding.specs.Finding.{Finding, told, are_none}

pub both_false : {a b : Bool} → a ≡ false → b ≡ false → (a || b) ≡ false
both_false {a = true} {b = b} e k = absurd cc
both_false {a = false} {b = b} e k = k

pub both_true : {a b : Bool} → a ≡ true → b ≡ true → (a && b) ≡ true
both_true {a = true} {b = b} e k = k
both_true {a = false} {b = b} e k = absurd cc

pub and_grouped : (x y z : Bool) → (x && (y && z)) ≡ ((x && y) && z)
and_grouped true y z = refl
and_grouped false y z = refl

-- one condition more
pub told_not : (b : Bool) (finding : Finding) (findings : List Finding) → are_none (told b finding findings) ≡ (not b && are_none findings)
told_not true finding findings = refl
told_not false finding findings = refl

pub none_single : (b : Bool) (finding : Finding) → are_none (told b finding []) ≡ not b
none_single true finding = refl
none_single false finding = refl

pub told_step : (b : Bool) (finding : Finding) (findings : List Finding) (rest : Bool) → are_none findings ≡ not rest → are_none (told b finding findings) ≡ not (b || rest)
told_step true finding findings rest e = refl
told_step false finding findings rest e = e

pub none_append : (xs ys : List Finding) → are_none (xs ++ ys) ≡ are_none xs && are_none ys
none_append [] ys = refl
none_append (x ∷ xs) ys = refl

pub none_parts : (xs ys : List Finding) → are_none (xs ++ ys) ≡ true → (are_none xs ≡ true) × (are_none ys ≡ true)
none_parts [] ys e = (refl, e)
none_parts (x ∷ xs) ys e = absurd cc

pub none_both : (xs ys : List Finding) → are_none xs ≡ true → are_none ys ≡ true → are_none (xs ++ ys) ≡ true
none_both [] ys e k = k
none_both (x ∷ xs) ys e k = absurd cc

pub nothing : (xs : List Finding) → are_none xs ≡ true → xs ≡ []
nothing [] e = refl
nothing (x ∷ xs) e = absurd cc

pub none_told : (b : Bool) (finding : Finding) (findings : List Finding) → are_none (told b finding findings) ≡ true → (b ≡ false) × (are_none findings ≡ true)
none_told true finding findings e = absurd cc
none_told false finding findings e = (refl, e)

pub told_none : (b : Bool) (finding : Finding) (findings : List Finding) → b ≡ false → are_none findings ≡ true → are_none (told b finding findings) ≡ true
told_none true finding findings e k = absurd cc
told_none false finding findings e k = k
