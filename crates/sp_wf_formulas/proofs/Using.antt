-- Uses of variables that are looked at one after the other.
use Rattle.std.proofs.Common.{◌≡◌, ℕ, ◌&&◌, if◌then◌else◌, List, [], ◌∷◌, ◌++◌, Option, Some, None, refl, sym, ap, ◌∙◌}
use Rattle.sp_spec.specs.Formula.{Written}
use Rattle.sp_spec.specs.Guarded.{Time}
use Rattle.sp_law_guard.specs.GuardedForm.{meant}
use Rattle.sp_finding.specs.Finding.{told, lines_after}
use Rattle.sp_wf_formulas.specs.FormulaFindings.{Role, as_message, as_time, Use, uses_as, role_of}
use Rattle.sp_wf_formulas.specs.Sought.{Kind, is_sought, said, sought, is_there}
use Rattle.sp_finding.proofs.Telling.{told_both, told_append}

pub sought_both : (k : Kind) (n : List ℕ) (us vs : List Use) → sought k n (us ++ vs) ≡ sought k n us ++ sought k n vs
sought_both k n [] vs = refl
sought_both k n (u ∷ us) vs =
    ap (told (is_sought k u.role u.variable.mark u.means) (said k n u.variable.name)) (sought_both k n us vs)
    ∙ told_append (is_sought k u.role u.variable.mark u.means) (said k n u.variable.name) (sought k n us) (sought k n vs)

uses_both : (role : Role) (bs xs ys : List Written) → uses_as role bs (xs ++ ys) ≡ uses_as role bs xs ++ uses_as role bs ys
uses_both role bs [] ys = refl
uses_both role bs (x ∷ xs) ys = ap (λ (us : List Use). record { variable = x; means = meant bs x.name; role = role } ∷ us) (uses_both role bs xs ys)

pub sought_on : (ls : List (List ℕ)) (k : Kind) (n : List ℕ) (us vs : List Use) → lines_after (lines_after ls (sought k n us)) (sought k n vs) ≡ lines_after ls (sought k n (us ++ vs))
sought_on ls k n us vs = told_both (sought k n us) ls (sought k n vs) ∙ ap (lines_after ls) (sym (sought_both k n us vs))

pub used_both : (k : Kind) (n : List ℕ) (role : Role) (bs xs ys : List Written) → sought k n (uses_as role bs (xs ++ ys)) ≡ sought k n (uses_as role bs xs) ++ sought k n (uses_as role bs ys)
used_both k n role bs xs ys = ap (sought k n) (uses_both role bs xs ys) ∙ sought_both k n (uses_as role bs xs) (uses_as role bs ys)

pub used_on : (ls : List (List ℕ)) (k : Kind) (n : List ℕ) (role : Role) (bs xs ys : List Written)
    → lines_after (lines_after ls (sought k n (uses_as role bs xs))) (sought k n (uses_as role bs ys)) ≡ lines_after ls (sought k n (uses_as role bs (xs ++ ys)))
used_on ls k n role bs xs ys = sought_on ls k n (uses_as role bs xs) (uses_as role bs ys) ∙ ap (λ (us : List Use). lines_after ls (sought k n us)) (sym (uses_both role bs xs ys))

pub both_times : (o p : Option Time) → role_of o p ≡ (if is_there o && is_there p then as_time else as_message)
both_times None p = refl
both_times (Some i) None = refl
both_times (Some i) (Some j) = refl

pub sought_behind : (a b c : List (List ℕ)) (k : Kind) (n : List ℕ) (us vs : List Use) → b ≡ lines_after a (sought k n us) → c ≡ lines_after b (sought k n vs) → c ≡ lines_after a (sought k n (us ++ vs))
sought_behind a b c k n us vs e h = h ∙ ap (λ (ls : List (List ℕ)). lines_after ls (sought k n vs)) e ∙ sought_on a k n us vs
