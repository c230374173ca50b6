-- Lines that are told one after the other.
use Rattle.std.proofs.Common.{◌≡◌, ℕ, Bool, true, false, if◌then◌else◌, List, [], ◌∷◌, ◌++◌, refl, sym, ap, ◌∙◌}
use Rattle.sp_spec.specs.Lists.{Every, is_listed}
use Rattle.sp_spec.proofs.Lists.{every_parts, every_append}
use Rattle.sp_spec.proofs.Listed.{listed_then, listed_now}
use Rattle.sp_finding.specs.Finding.{Finding, line, told, lines_after}

pub told_append : (b : Bool) (finding : Finding) (xs ys : List Finding) → told b finding (xs ++ ys) ≡ told b finding xs ++ ys
told_append true finding xs ys = refl
told_append false finding xs ys = refl

pub told_on : (ls : List (List ℕ)) (b : Bool) (finding : Finding) (findings : List Finding) → lines_after (lines_after ls (told b finding [])) findings ≡ lines_after ls (told b finding findings)
told_on ls true finding findings = refl
told_on ls false finding findings = refl

pub told_both : (xs : List Finding) (ls : List (List ℕ)) (ys : List Finding) → lines_after (lines_after ls xs) ys ≡ lines_after ls (xs ++ ys)
told_both [] ls ys = refl
told_both (x ∷ xs) ls ys = told_both xs (if is_listed (line x) ls then ls else ls ++ line x ∷ []) ys

pub one_behind : (a b c : List (List ℕ)) (xs ys : List Finding) → b ≡ lines_after a xs → c ≡ lines_after b ys → c ≡ lines_after a (xs ++ ys)
one_behind a b c xs ys e k = k ∙ ap (λ (ls : List (List ℕ)). lines_after ls ys) e ∙ told_both xs a ys

pub told_three : (a b c d : List (List ℕ)) (xs ys zs : List Finding) → b ≡ lines_after a xs → c ≡ lines_after b ys → d ≡ lines_after c zs → d ≡ lines_after a (xs ++ (ys ++ zs))
told_three a b c d xs ys zs x y z = one_behind a b d xs (ys ++ zs) x (one_behind b c d ys zs y z)

pub told_four : (a b c d e : List (List ℕ)) (ws xs ys zs : List Finding) → b ≡ lines_after a ws → c ≡ lines_after b xs → d ≡ lines_after c ys → e ≡ lines_after d zs
    → e ≡ lines_after a (ws ++ (xs ++ (ys ++ zs)))
told_four a b c d e ws xs ys zs w x y z = one_behind a b e ws (xs ++ (ys ++ zs)) w (one_behind b c e xs (ys ++ zs) x (one_behind c d e ys zs y z))

pub told_five : (a b c d e f : List (List ℕ)) (vs ws xs ys zs : List Finding) → b ≡ lines_after a vs → c ≡ lines_after b ws → d ≡ lines_after c xs → e ≡ lines_after d ys → f ≡ lines_after e zs
    → f ≡ lines_after a (vs ++ (ws ++ (xs ++ (ys ++ zs))))
told_five a b c d e f vs ws xs ys zs v w x y z = one_behind a b f vs (ws ++ (xs ++ (ys ++ zs))) v (told_four b c d e f ws xs ys zs w x y z)

pub told_six : (a b c d e f g : List (List ℕ)) (us vs ws xs ys zs : List Finding) → b ≡ lines_after a us → c ≡ lines_after b vs → d ≡ lines_after c ws → e ≡ lines_after d xs → f ≡ lines_after e ys
    → g ≡ lines_after f zs → g ≡ lines_after a (us ++ (vs ++ (ws ++ (xs ++ (ys ++ zs)))))
told_six a b c d e f g us vs ws xs ys zs u v w x y z = one_behind a b g us (vs ++ (ws ++ (xs ++ (ys ++ zs)))) u (told_five b c d e f g vs ws xs ys zs v w x y z)

-- a line that stands goes on standing, and isn't told again
abbrev Stands : List (List ℕ) → Finding → Type 0
Stands ls f = is_listed (line f) ls ≡ true

kept_standing : (x : List ℕ) (fs : List Finding) (ls : List (List ℕ)) → is_listed x ls ≡ true → is_listed x (lines_after ls fs) ≡ true
kept_standing x [] ls e = e
kept_standing x (f ∷ fs) ls e = kept_standing x fs (if is_listed (line f) ls then ls else ls ++ line f ∷ []) (listed_then (is_listed (line f) ls) x (line f) ls e)

all_stand : (fs : List Finding) (ls : List (List ℕ)) → Every (Stands (lines_after ls fs)) fs
all_stand [] ls = tt
all_stand (f ∷ fs) ls =
    let now = if is_listed (line f) ls then ls else ls ++ line f ∷ [] in
    (kept_standing (line f) fs now (listed_now (is_listed (line f) ls) (line f) ls refl), all_stand fs now)

not_again : (fs : List Finding) (ls : List (List ℕ)) → Every (Stands ls) fs → lines_after ls fs ≡ ls
not_again [] ls h = refl
not_again (f ∷ fs) ls h = ap (λ (b : Bool). lines_after (if b then ls else ls ++ line f ∷ []) fs) h.0 ∙ not_again fs ls h.1

pub both_orders : (xs ys : List Finding) (ls : List (List ℕ)) → lines_after ls ((xs ++ ys) ++ (ys ++ xs)) ≡ lines_after ls (xs ++ ys)
both_orders xs ys ls =
    let stand = every_parts (Stands (lines_after ls (xs ++ ys))) xs ys (all_stand (xs ++ ys) ls) in
    sym (told_both (xs ++ ys) ls (ys ++ xs)) ∙ not_again (ys ++ xs) (lines_after ls (xs ++ ys)) (every_append (Stands (lines_after ls (xs ++ ys))) ys xs stand.1 stand.0)
