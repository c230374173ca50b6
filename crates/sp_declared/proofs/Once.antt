-- Names that are put behind others, each once.
use Rattle.std.proofs.Common.{◌≡◌, ℕ, List, ◌++◌, ap, ◌∙◌}
use Rattle.sp_spec.specs.Constants.{once_after}
use Rattle.sp_declared.specs.OnceLaws.{once_both}

pub once_three : (xs ys zs : List (List ℕ)) (a b c d : List (List ℕ)) → b ≡ once_after a xs → c ≡ once_after b ys → d ≡ once_after c zs → d ≡ once_after a (xs ++ (ys ++ zs))
once_three xs ys zs a b c d e k h =
    h ∙ ap (λ (ls : List (List ℕ)). once_after ls zs) k ∙ once_both ys b zs
    ∙ ap (λ (ls : List (List ℕ)). once_after ls (ys ++ zs)) e ∙ once_both xs a (ys ++ zs)
