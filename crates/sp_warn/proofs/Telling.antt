-- Lines that are told one after the other.
use Rattle.std.proofs.Common.{◌≡◌, ℕ, ◌≤◌, Bool, true, false, List, [], ◌++◌, drop, length, refl, sym, ap, ◌∙◌, arith}
use Rattle.std.proofs.Math.ListN.{drop_of_length-le}
use Rattle.sp_warn.specs.Warning.{Warning, told}
use Rattle.sp_warn.specs.Told.{lines_after}
use Rattle.sp_warn.specs.ToldLaws.{told_both}

pub told_first : (b : Bool) (w : Warning) (ws : List Warning) → told b w ws ≡ told b w [] ++ ws
told_first true w ws = refl
told_first false w ws = refl

-- one part behind the other
pub one_behind : (a b c : List (List ℕ)) (xs ys : List Warning) → b ≡ lines_after a xs → c ≡ lines_after b ys → c ≡ lines_after a (xs ++ ys)
one_behind a b c xs ys e f = f ∙ ap (λ (ls : List (List ℕ)). lines_after ls ys) e ∙ told_both a xs ys

pub told_five : (a b c d e f : List (List ℕ)) (vs ws xs ys zs : List Warning) → b ≡ lines_after a vs → c ≡ lines_after b ws → d ≡ lines_after c xs → e ≡ lines_after d ys → f ≡ lines_after e zs
    → f ≡ lines_after a (vs ++ (ws ++ (xs ++ (ys ++ zs))))
told_five a b c d e f vs ws xs ys zs v w x y z =
    one_behind a b f vs (ws ++ (xs ++ (ys ++ zs))) v (one_behind b c f ws (xs ++ (ys ++ zs)) w (one_behind c d f xs (ys ++ zs) x (one_behind d e f ys zs y z)))

-- behind the last one nothing is left
pub nothing_left : {A : Type 0} (all : List A → List Warning) → all [] ≡ [] → (ys xs : List A) (i : ℕ) (a target : List (List ℕ)) → ys ≡ xs → length ys ≤ i
    → lines_after a (all (drop i xs)) ≡ target → a ≡ target
nothing_left all none ys xs i a target same past so =
    let behind : length xs ≤ i = omega (arith, ap length same) in
    sym (ap (lines_after a) (ap all (drop_of_length-le xs behind) ∙ none)) ∙ so
