-- Lists that are told, and what is added to them.
use Rattle.std.proofs.Common.{◌≡◌, ℕ, ◌+◌, List, ◌++◌, Option, Some, None, take, drop, refl, ap, ◌∙◌, sym, append_assoc, take-add}
use Rattle.sp_io.specs.Told.{extended}

pub extended-extended : {A : Type 0} (told : Option (List A)) (xs ys : List A) → extended (extended told xs) ys ≡ extended told (xs ++ ys)
extended-extended None xs ys = refl
extended-extended (Some told) xs ys = rw append_assoc refl

-- one piece after another
pub extended-take_add : (told : Option (List ℕ)) (bytes : List ℕ) (done n : ℕ)
    → extended (extended told (take done bytes)) (take n (drop done bytes)) ≡ extended told (take (done + n) bytes)
extended-take_add told bytes done n =
    extended-extended told (take done bytes) (take n (drop done bytes)) ∙ ap (λ (xs : List ℕ). extended told xs) (sym (take-add done n bytes))
