-- Lists with others in the place of an element.
use Rattle.std.proofs.Common.{◌≡◌, ◌+◌, ℕ, suc, List, ◌++◌, take, drop, ap, ap₂, ◌∙◌, arith, append_assoc}
use Rattle.std.specs.List.{remove}
use Rattle.std.proofs.lemmas.List.{drop-drop}

-- what stands before the element and the others are put together, and behind them what is left behind the element
pub replaced : {X : Type 0} (xs ys front behind made : List X) (k : ℕ) → front ≡ take k xs ++ ys → behind ≡ remove (drop k xs) 0 → made ≡ front ++ behind
    → made ≡ take k xs ++ (ys ++ drop (suc k) xs)
replaced {X} xs ys front behind made k f b m =
    let one : k + 1 ≡ suc k = omega arith in
    m ∙ ap₂ (λ (vs ws : List X). vs ++ ws) f b
    ∙ append_assoc (take k xs) ys (drop 1 (drop k xs))
    ∙ ap (λ (zs : List X). take k xs ++ (ys ++ zs)) (drop-drop 1 k xs ∙ ap (λ (n : ℕ). drop n xs) one)
