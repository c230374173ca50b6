-- Lines that are told one after the other, each once.
use Rattle.std.proofs.Common.{◌≡◌, ℕ, List, ◌++◌, map, sym, ap, ap₂, ◌∙◌}
use Rattle.std.proofs.lemmas.List.{map-append}
use Rattle.sp_declared.specs.OnceLaws as once
use Rattle.sp_spec.specs.Constants.{once_after}
use Rattle.sp_warn.specs.Warning.{Warning, line}
use Rattle.sp_warn.specs.Told.{lines_after}

pub told_both : (ls : List (List ℕ)) (xs ys : List Warning) → lines_after (lines_after ls xs) ys ≡ lines_after ls (xs ++ ys)
told_both ls xs ys = once.once_both (map line xs) ls (map line ys) ∙ ap (once_after ls) (sym (map-append line xs ys))

pub both_orders : (ls : List (List ℕ)) (xs ys : List Warning) → lines_after ls ((xs ++ ys) ++ (ys ++ xs)) ≡ lines_after ls (xs ++ ys)
both_orders ls xs ys =
    ap (once_after ls) (map-append line (xs ++ ys) (ys ++ xs) ∙ ap₂ (λ (us vs : List (List ℕ)). us ++ vs) (map-append line xs ys) (map-append line ys xs))
    ∙ once.both_orders (map line xs) (map line ys) ls ∙ ap (once_after ls) (sym (map-append line xs ys))
