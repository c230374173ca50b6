-- A vector's clone views as the vector does, where the clone of an element views as the element does.
use Rattle.std.proofs.Common.{◌≡◌, List, [], ◌∷◌, map, refl}
use Rattle.std.specs.List.{AllZip}

pub cloned : {A B : Type 0} (f : A → B) (xs ys : List A) → AllZip (λ x y. f y ≡ f x) xs ys → map f ys ≡ map f xs
cloned f [] [] h = refl
cloned f [] (y ∷ ys) h = absurd h
cloned f (x ∷ xs) [] h = absurd h
cloned f (x ∷ xs) (y ∷ ys) h = let e = cloned f xs ys h.1 in let d = h.0 in cc
