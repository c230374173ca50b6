-- Names that are put behind others, each once: one after the other, and none again.
use Rattle.std.proofs.Common.{◌≡◌, ℕ, if◌then◌else◌, List, [], ◌∷◌, ◌++◌, refl, sym, ◌∙◌}
use Rattle.sp_spec.proofs.Lists.{every_parts, every_append}
use Rattle.sp_spec.proofs.Standing.{Stands, all_stand, not_again}
use Rattle.sp_spec.specs.Written.{is_listed}
use Rattle.sp_spec.specs.Constants.{once_after}

pub once_both : (xs : List (List ℕ)) (ls : List (List ℕ)) (ys : List (List ℕ)) → once_after (once_after ls xs) ys ≡ once_after ls (xs ++ ys)
once_both [] ls ys = refl
once_both (x ∷ xs) ls ys = once_both xs (if is_listed x ls then ls else ls ++ x ∷ []) ys

pub both_orders : (xs ys ls : List (List ℕ)) → once_after ls ((xs ++ ys) ++ (ys ++ xs)) ≡ once_after ls (xs ++ ys)
both_orders xs ys ls =
    let stand = every_parts (Stands (once_after ls (xs ++ ys))) xs ys (all_stand (xs ++ ys) ls) in
    sym (once_both (xs ++ ys) ls (ys ++ xs)) ∙ not_again (ys ++ xs) (once_after ls (xs ++ ys)) (every_append (Stands (once_after ls (xs ++ ys))) ys xs stand.1 stand.0)
