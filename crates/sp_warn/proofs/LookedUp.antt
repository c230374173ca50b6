-- Forms among which others are looked up: those of a list, each once.
use Rattle.std.proofs.Common.{◌≡◌, ℕ, Bool, true, false, ◌||◌, if◌then◌else◌, ◌+◌, ◌<◌, List, [], ◌∷◌, ◌++◌, map, drop, length, get_or, append_assoc, refl, sym, ap, ap₂, ◌∙◌}
use Rattle.std.proofs.lemmas.List.{map-append}
use Rattle.std.proofs.Math.Bool.{or_assoc}
use Rattle.std.specs.List.{list_any}
use Rattle.indexmap.specs.IndexSet.{insert_key}
use Rattle.sp_spec.proofs.Lists.{next_there}
use Rattle.sp_warn.specs.Forms.{Form, is_same_form, is_among}
use Rattle.sp_warn.specs.FormView.{form_of}
use Rattle.sp_warn.specs.declared.forms.Form as memory
use Rattle.sp_warn.specs.contracts.forms.FormPartialEq.TheImpl as forms
use Rattle.sp_warn.proofs.SameForms.{form_tests, same_forms}

pub among_keys : (x : memory.Form) (ks : List memory.Form) → list_any (forms.ghosts.eq x) ks ≡ is_among (form_of x) (map form_of ks)
among_keys x [] = refl
among_keys x (k ∷ ks) = ap₂ (λ (a b : Bool). a || b) (form_tests x k) (among_keys x ks)

among_both : (x : Form) (fs gs : List Form) → is_among x (fs ++ gs) ≡ (is_among x fs || is_among x gs)
among_both x [] gs = refl
among_both x (f ∷ fs) gs = ap (λ (b : Bool). is_same_form x f || b) (among_both x fs gs) ∙ sym (or_assoc (is_same_form x f) (is_among x fs) (is_among x gs))

-- one that is there already adds nothing
told_before : (b : Bool) (x y : Form) (fs : List Form) → is_same_form x y ≡ b → is_among y fs ≡ true → is_among x fs ≡ (is_among x fs || (b || false))
told_before true x y fs same there =
    let now : is_among x fs ≡ true = ap (λ (z : Form). is_among z fs) (same_forms x y same) ∙ there in
    now ∙ sym (ap (λ (a : Bool). a || true) now)
told_before false x y fs same there = or_nothing (is_among x fs)
  where
    or_nothing : (a : Bool) → a ≡ (a || false)
    or_nothing true = refl
    or_nothing false = refl

put : (b : Bool) (x : Form) (ks : List memory.Form) (k : memory.Form) → is_among (form_of k) (map form_of ks) ≡ b
    → is_among x (map form_of (if b then ks else ks ++ k ∷ [])) ≡ is_among x (map form_of ks ++ form_of k ∷ [])
put true x ks k there =
    told_before (is_same_form x (form_of k)) x (form_of k) (map form_of ks) refl there ∙ sym (among_both x (map form_of ks) (form_of k ∷ []))
put false x ks k there = ap (is_among x) (map-append form_of ks (k ∷ []))

inserted : (x : Form) (ks : List memory.Form) (k : memory.Form) → is_among x (map form_of (insert_key forms.ghosts.eq ks k)) ≡ is_among x (map form_of ks ++ form_of k ∷ [])
inserted x ks k = put (list_any (forms.ghosts.eq k) ks) x ks k (sym (among_keys k ks))

pub next_made : (x : Form) (ys xs : List memory.Form) (i : ℕ) (k : memory.Form) (ks ns : List memory.Form) (target : Bool) → ys ≡ xs → i < length ys → k ≡ get_or ys i k
    → ns ≡ insert_key forms.ghosts.eq ks k → is_among x (map form_of ks ++ map form_of (drop i xs)) ≡ target → is_among x (map form_of ns ++ map form_of (drop (i + 1) xs)) ≡ target
next_made x ys xs i k ks ns target same below is made so =
    let rest = map form_of (drop (i + 1) xs) in
    among_both x (map form_of ns) rest
    ∙ ap (λ (b : Bool). b || is_among x rest) (ap (λ (ls : List memory.Form). is_among x (map form_of ls)) made ∙ inserted x ks k)
    ∙ sym (among_both x (map form_of ks ++ form_of k ∷ []) rest)
    ∙ ap (is_among x) (append_assoc (map form_of ks) (form_of k ∷ []) rest)
    ∙ ap (λ (zs : List memory.Form). is_among x (map form_of ks ++ map form_of zs)) (sym (next_there ys xs i k same below is))
    ∙ so
