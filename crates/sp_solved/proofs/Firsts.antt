-- Lists that are made of one element after the other, as long as each is there.
use Rattle.std.proofs.Common.{◌≡◌, List, [], ◌∷◌, ◌++◌, Option, Some, None, option_map, option_and_then, refl, sym, ap, ◌∙◌, append_assoc}
use Rattle.sp_spec.proofs.Options.{behind}

-- what is made of the first, and then the rest
abbrev pub with_first : {A B : Type 0} → (B → A) → Option (List A) → Option B → Option (List A)
with_first make rest first = option_and_then (λ b. option_map (λ xs. make b ∷ xs) rest) first

pub regrouped : {A : Type 0} (there : List A) (a : A) (o : Option (List A)) → behind (there ++ a ∷ []) o ≡ behind there (option_map (λ xs. a ∷ xs) o)
regrouped there a None = refl
regrouped there a (Some xs) = ap Some (append_assoc there (a ∷ []) xs)

pub first_put : {A B : Type 0} (make : B → A) (there : List A) (b : B) (first : Option B) (rest target : Option (List A)) → first ≡ Some b
    → behind there (with_first make rest first) ≡ target → behind (there ++ make b ∷ []) rest ≡ target
first_put make there b first rest target e inv = regrouped there (make b) rest ∙ ap (λ o. behind there (with_first make rest o)) (sym e) ∙ inv

-- where all are there, the first is, and the rest are
pub both_there : {A B : Type 0} (make : B → A) (rest : Option (List A)) (first : Option B) (all : List A) → with_first make rest first ≡ Some all
    → (b : B) × (first ≡ Some b) × (xs : List A) × (rest ≡ Some xs)
both_there make rest None all e = absurd cc
both_there make None (Some b) all e = absurd cc
both_there make (Some xs) (Some b) all e = (b, refl, xs, refl)
