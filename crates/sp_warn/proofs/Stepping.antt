-- One constant after the other, and one form after the other, behind those that stand before.
use Rattle.std.proofs.Common.{◌≡◌, ℕ, Bool, not, ◌+◌, ◌<◌, List, [], ◌∷◌, ◌++◌, map, drop, length, get_or, sym, ap, ◌∙◌}
use Rattle.std.specs.Prelude.{String, string_bytes}
use Rattle.sp_spec.specs.Term.{count}
use Rattle.sp_spec.specs.Rule.{Fact}
use Rattle.sp_spec.specs.Formula.{Written}
use Rattle.sp_spec.proofs.Lists.{next_there}
use Rattle.sp_warn.specs.Constants.{differ_in_case, alike_before, alike_among}
use Rattle.sp_warn.specs.Forms.{Form, fact_form, is_among, differs_from_first}
use Rattle.sp_warn.specs.FormView.{form_of}
use Rattle.sp_warn.specs.Warning.{no_source, alike, several_forms, told}
use Rattle.sp_warn.specs.Warnings.{without_source, several_among}
use Rattle.sp_warn.specs.declared.forms.Form as memory
use Rattle.sp_warn.specs.Told.{lines_after}
use Rattle.sp_warn.specs.ToldLaws.{told_both}
use Rattle.sp_warn.proofs.Telling.{told_first}

pub premise_first : (made : List Form) (r : List ℕ) (f : Fact Written) (fs : List (Fact Written)) → without_source made r (f ∷ fs) ≡ without_source made r (f ∷ []) ++ without_source made r fs
premise_first made r f fs = told_first (not (is_among (fact_form f) made)) (no_source r f.symbol (count f.args)) (without_source made r fs)

pub alike_first : (c b : List ℕ) (bs : List (List ℕ)) → alike_before (b ∷ bs) c ≡ alike_before (b ∷ []) c ++ alike_before bs c
alike_first c b bs = told_first (differ_in_case b c) (alike b c) (alike_before bs c)

-- the next one behind those that stand before
pub next_alike : {A : Type 0} (before : List (List ℕ)) (ys xs : List (String A)) (i : ℕ) (x : String A) (c : List ℕ) (a b target : List (List ℕ)) → ys ≡ xs → i < length ys → x ≡ get_or ys i x
    → c ≡ string_bytes x → b ≡ lines_after a (alike_before before c) → lines_after a (alike_among before (map string_bytes (drop i xs))) ≡ target
    → lines_after b (alike_among (before ++ c ∷ []) (map string_bytes (drop (i + 1) xs))) ≡ target
next_alike {A = A} before ys xs i x c a b target same below is text told so =
    let left = map string_bytes (drop (i + 1) xs) in
    let rest = alike_among (before ++ c ∷ []) left in
    ap (λ (ls : List (List ℕ)). lines_after ls rest) told ∙ told_both a (alike_before before c) rest
    ∙ ap (λ (k : List ℕ). lines_after a (alike_before before k ++ alike_among (before ++ k ∷ []) left)) text
    ∙ ap (λ (zs : List (String A)). lines_after a (alike_among before (map string_bytes zs))) (sym (next_there ys xs i x same below is)) ∙ so

pub next_several : (before : List Form) (ys xs : List memory.Form) (i : ℕ) (x : memory.Form) (d : Bool) (a b target : List (List ℕ)) → ys ≡ xs → i < length ys → x ≡ get_or ys i x
    → d ≡ differs_from_first (form_of x) before → b ≡ lines_after a (told d (several_forms x.symbol.now) [])
    → lines_after a (several_among before (map form_of (drop i xs))) ≡ target → lines_after b (several_among (before ++ form_of x ∷ []) (map form_of (drop (i + 1) xs))) ≡ target
next_several before ys xs i x d a b target same below is differs telling so =
    let warning = several_forms x.symbol.now in
    let rest = several_among (before ++ form_of x ∷ []) (map form_of (drop (i + 1) xs)) in
    let on = differs_from_first (form_of x) before in
    ap (λ (ls : List (List ℕ)). lines_after ls rest) (telling ∙ ap (λ (t : Bool). lines_after a (told t warning [])) differs)
    ∙ told_both a (told on warning []) rest ∙ ap (lines_after a) (sym (told_first on warning rest))
    ∙ ap (λ (zs : List memory.Form). lines_after a (several_among before (map form_of zs))) (sym (next_there ys xs i x same below is)) ∙ so
