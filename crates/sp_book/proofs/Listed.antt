-- What is listed under a name while rules are gone over.
use Rattle.std.proofs.Common.{◌≡◌, ◌==◌, ◌+◌, ◌-◌, ◌<◌, ℕ, zero, suc, map, drop, drop-cons, get_or, add-one, append-nil, Bool, true, false, ◌||◌, List, [], ◌∷◌, ◌++◌, length, Some, refl, ap, sym, subst, ◌∙◌, if◌then◌else◌, append_assoc, slice_get, arith}
use Rattle.std.proofs.Math.Bool.{or_assoc}
use Rattle.sp_spec_forms.specs.Numbering.{Form}
use Rattle.sp_spec_forms.specs.Forms.{RuleForms}
use Rattle.std.specs.Str.{bytes_eq}
use Rattle.sp_book.specs.Book.{has_name, is_named, places_by, last_is, noted, noted_each, noted_forms}
use Rattle.std.proofs.lemmas.Bool.{ne_eqb, eq-eqb}

-- each place stands before this one
abbrev pub EachBelow : ℕ → List ℕ → Type 0
EachBelow here [] = Unit {0}
EachBelow here (p ∷ ps) = (p < here) × EachBelow here ps

-- the places with those of one more rule
abbrev pub with_place : ℕ → Bool → List ℕ → List ℕ
with_place here b ps = if b then ps ++ here ∷ [] else ps

-- what is listed under a name once the rules before this place are gone over
pub record IsListed (names : Form → List (List ℕ)) (symbol : List ℕ) (here : ℕ) (ps : List ℕ) (rest all : List RuleForms) : Type 0 where
  pub same : ps ++ places_by names symbol here rest ≡ places_by names symbol 0 all
  pub below : EachBelow here ps

below_differs : (p here : ℕ) → p < here → (p == here) ≡ false
below_differs p here l = ne_eqb p here (λ e. absurd (omega (arith, e, l)))

none_is : (here : ℕ) (ps : List ℕ) (n : ℕ) → EachBelow here ps → last_is here (slice_get ps n) ≡ false
none_is here [] n below = refl
none_is here (p ∷ ps) zero below = below_differs p here below.0
none_is here (p ∷ ps) (suc n) below = none_is here ps n below.1

one_longer : (ps : List ℕ) (here : ℕ) → length (ps ++ here ∷ []) ≡ suc (length ps)
one_longer [] here = refl
one_longer (p ∷ ps) here = ap (λ (n : ℕ). suc n) (one_longer ps here)

at_end : (here : ℕ) (ps : List ℕ) → slice_get (ps ++ here ∷ []) (length ps) ≡ Some here
at_end here [] = refl
at_end here (p ∷ ps) = at_end here ps

last_of : (here : ℕ) (ps : List ℕ) → last_is here (slice_get (ps ++ here ∷ []) (length (ps ++ here ∷ []) - 1)) ≡ true
last_of here ps =
    let shorter : length (ps ++ here ∷ []) - 1 ≡ length ps = omega (arith, one_longer ps here) in
    ap (λ (n : ℕ). last_is here (slice_get (ps ++ here ∷ []) n)) shorter ∙ ap (last_is here) (at_end here ps) ∙ eq-eqb here here refl

pub noted_once : (here : ℕ) (b : Bool) (ps : List ℕ) → EachBelow here ps → noted here (with_place here b ps) ≡ with_place here true ps
noted_once here true ps below = ap (λ (t : Bool). if t then ps ++ here ∷ [] else (ps ++ here ∷ []) ++ here ∷ []) (last_of here ps)
noted_once here false ps below = ap (λ (t : Bool). if t then ps else ps ++ here ∷ []) (none_is here ps (length ps - 1) below)

one_noted : (here : ℕ) (b c : Bool) (ps : List ℕ) → EachBelow here ps
    → (if c then noted here (with_place here b ps) else with_place here b ps) ≡ with_place here (b || c) ps
one_noted here true true ps below = noted_once here true ps below
one_noted here true false ps below = refl
one_noted here false true ps below = noted_once here false ps below
one_noted here false false ps below = refl

all_noted : (here : ℕ) (symbol : List ℕ) (names : List (List ℕ)) (b : Bool) (ps : List ℕ) → EachBelow here ps
    → noted_each here symbol names (with_place here b ps) ≡ with_place here (b || has_name symbol names) ps
all_noted here symbol [] true ps below = refl
all_noted here symbol [] false ps below = refl
all_noted here symbol (name ∷ names) b ps below =
    ap (noted_each here symbol names) (one_noted here b (bytes_eq symbol name) ps below)
    ∙ all_noted here symbol names (b || bytes_eq symbol name) ps below
    ∙ ap (λ (t : Bool). with_place here t ps) (or_assoc b (bytes_eq symbol name) (has_name symbol names))

-- the same, for the names of all forms
forms_noted : (names : Form → List (List ℕ)) (here : ℕ) (symbol : List ℕ) (forms : List Form) (b : Bool) (ps : List ℕ) → EachBelow here ps
    → noted_forms names here symbol forms (with_place here b ps) ≡ with_place here (b || is_named names symbol forms) ps
forms_noted names here symbol [] true ps below = refl
forms_noted names here symbol [] false ps below = refl
forms_noted names here symbol (form ∷ forms) b ps below =
    let c = has_name symbol (names form) in
    ap (noted_forms names here symbol forms) (all_noted here symbol (names form) b ps below)
    ∙ forms_noted names here symbol forms (b || c) ps below
    ∙ ap (λ (t : Bool). with_place here t ps) (or_assoc b c (is_named names symbol forms))

each_later : (here : ℕ) (ps : List ℕ) → EachBelow here ps → EachBelow (suc here) ps
each_later here [] below = tt
each_later here (p ∷ ps) below = (omega (arith, below.0), each_later here ps below.1)

each_to : (here : ℕ) (ps : List ℕ) → EachBelow here ps → EachBelow (suc here) (ps ++ here ∷ [])
each_to here [] below = (omega arith, tt)
each_to here (p ∷ ps) below = (omega (arith, below.0), each_to here ps below.1)

-- what was listed, and what is listed later, by whether the rule has the name
listed_on : (here : ℕ) (b c : Bool) (ps later : List ℕ) → b ≡ c → with_place here c ps ++ later ≡ ps ++ (if b then here ∷ later else later)
listed_on here true true ps later e = append_assoc ps (here ∷ []) later
listed_on here false false ps later e = refl
listed_on here true false ps later e = absurd cc
listed_on here false true ps later e = absurd cc

each_with : (here : ℕ) (b : Bool) (ps : List ℕ) → EachBelow here ps → EachBelow (suc here) (with_place here b ps)
each_with here true ps below = each_to here ps below
each_with here false ps below = each_later here ps below

-- one more rule is gone over
pub next_listed : (names : Form → List (List ℕ)) (symbol : List ℕ) (here : ℕ) (ps : List ℕ) (r : RuleForms) (rest all : List RuleForms)
    → IsListed names symbol here ps (r ∷ rest) all → IsListed names symbol (suc here) (noted_forms names here symbol r.forms ps) rest all
next_listed names symbol here ps r rest all was =
    let b = is_named names symbol r.forms in
    let made : noted_forms names here symbol r.forms ps ≡ with_place here b ps = forms_noted names here symbol r.forms false ps was.below in
    let next : IsListed names symbol (suc here) (with_place here b ps) rest all =
    record { same = listed_on here b b ps (places_by names symbol (suc here) rest) refl ∙ was.same; below = each_with here b ps was.below } in
    subst (λ (qs : List ℕ). IsListed names symbol (suc here) qs rest all) (sym made) next

-- the same, where the rules are seen in memory
pub next_at : {A : Type 0} (names : Form → List (List ℕ)) (v : A → RuleForms) (xs : List A) (symbol : List ℕ) (here : ℕ) (ps qs : List ℕ) (r : A) → here < length xs
    → r ≡ get_or xs here r → qs ≡ noted_forms names here symbol (v r).forms ps → IsListed names symbol here ps (map v (drop here xs)) (map v xs)
    → IsListed names symbol (here + 1) qs (map v (drop (here + 1) xs)) (map v xs)
next_at {A = A} names v xs symbol here ps qs r l is e was =
    let first : drop here xs ≡ r ∷ drop (suc here) xs = drop-cons xs here r l ∙ ap (λ (x : A). x ∷ drop (suc here) xs) (sym is) in
    let seen : IsListed names symbol here ps (v r ∷ map v (drop (suc here) xs)) (map v xs) =
    subst (λ (ys : List A). IsListed names symbol here ps (map v ys) (map v xs)) first was in
    let next : IsListed names symbol (suc here) (noted_forms names here symbol (v r).forms ps) (map v (drop (suc here) xs)) (map v xs) =
    next_listed names symbol here ps (v r) (map v (drop (suc here) xs)) (map v xs) seen in
    subst (λ (n : ℕ). IsListed names symbol n qs (map v (drop n xs)) (map v xs)) (sym (add-one here))
    (subst (λ (zs : List ℕ). IsListed names symbol (suc here) zs (map v (drop (suc here) xs)) (map v xs)) (sym e) next)

-- the places that are listed once all rules are gone over
pub all_listed : (names : Form → List (List ℕ)) (symbol : List ℕ) (here : ℕ) (ps : List ℕ) (rest all : List RuleForms) → rest ≡ []
    → IsListed names symbol here ps rest all → ps ≡ places_by names symbol 0 all
all_listed names symbol here ps rest all e was = sym (append-nil ps) ∙ ap (λ (rs : List RuleForms). ps ++ places_by names symbol here rs) (sym e) ∙ was.same
