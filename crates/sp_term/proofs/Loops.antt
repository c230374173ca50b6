-- A loop that makes one thing of each.
use Rattle.std.proofs.Common.{◌≡◌, ℕ, ◌+◌, ◌<◌, List, [], ◌∷◌, ◌++◌, map, take, length, get_or, ap, sym, ◌∙◌}
use Rattle.std.proofs.lemmas.List.{take_more, map-append}

pub one_more : {A B C : Type 0} (f : A → C) (g : B → C) (made made' : List A) (xs : List B) (i : ℕ) (y : A) (x : B) → map f made ≡ map g (take i xs)
    → made' ≡ made ++ y ∷ [] → i < length xs → x ≡ get_or xs i x → f y ≡ g x → map f made' ≡ map g (take (i + 1) xs)
one_more f g made made' xs i y x before push below item one =
    ap (map f) push
    ∙ map-append f made (y ∷ [])
    ∙ ap (λ zs. zs ++ f y ∷ []) before
    ∙ ap (λ z. map g (take i xs) ++ z ∷ []) (one ∙ ap g item)
    ∙ sym (map-append g (take i xs) (get_or xs i x ∷ []))
    ∙ ap (map g) (sym (take_more xs i x below))
