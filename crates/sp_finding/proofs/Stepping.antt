-- One part after the other.
use Rattle.std.proofs.Common.{◌≡◌, ℕ, Bool, true, false, ◌||◌, ◌+◌, ◌<◌, List, ◌∷◌, ◌++◌, map, drop, length, get_or, sym, ap, ◌∙◌}
use Rattle.sp_spec.proofs.Lists.{next_there}
use Rattle.sp_finding.specs.Finding.{Finding, lines_after}
use Rattle.sp_finding.proofs.Telling.{told_both}

-- what is told of one item, and then of the others
pub next_told : {A B : Type 0} (one : B → List Finding) (all : List B → List Finding) → ((x : B) (xs : List B) → all (x ∷ xs) ≡ one x ++ all xs)
    → (view : A → B) (ys xs : List A) (i : ℕ) (x : A) (a b target : List (List ℕ)) → ys ≡ xs → i < length ys → x ≡ get_or ys i x → b ≡ lines_after a (one (view x))
    → lines_after a (all (map view (drop i xs))) ≡ target → lines_after b (all (map view (drop (i + 1) xs))) ≡ target
next_told one all begins view ys xs i x a b target same h e told inv =
    ap (λ ls. lines_after ls (all (map view (drop (i + 1) xs)))) told
    ∙ told_both (one (view x)) a (all (map view (drop (i + 1) xs)))
    ∙ ap (lines_after a) (sym (begins (view x) (map view (drop (i + 1) xs))))
    ∙ ap (λ ys. lines_after a (all (map view ys))) (sym (next_there ys xs i x same h e)) ∙ inv

-- the same of the parts of anything in memory
pub next_part : {A : Type 0} (one : A → List Finding) (all : List A → List Finding) → ((x : A) (xs : List A) → all (x ∷ xs) ≡ one x ++ all xs) → (ys xs : List A) (i : ℕ) (x : A)
    (a b target : List (List ℕ)) → ys ≡ xs → i < length ys → x ≡ get_or ys i x → b ≡ lines_after a (one x) → lines_after a (all (drop i xs)) ≡ target → lines_after b (all (drop (i + 1) xs)) ≡ target
next_part {A = A} one all begins ys xs i x a b target same h e told inv =
    ap (λ (ls : List (List ℕ)). lines_after ls (all (drop (i + 1) xs))) told
    ∙ told_both (one x) a (all (drop (i + 1) xs))
    ∙ ap (lines_after a) (sym (begins x (drop (i + 1) xs)))
    ∙ ap (λ (zs : List A). lines_after a (all zs)) (sym (next_there ys xs i x same h e)) ∙ inv

-- a search that finds a part here, or passes it by
pub found_here : {A : Type 0} (one : A → Bool) (all : List A → Bool) → ((x : A) (xs : List A) → all (x ∷ xs) ≡ (one x || all xs)) → (ys xs : List A) (i : ℕ) (x : A) (target : Bool) → ys ≡ xs
    → i < length ys → x ≡ get_or ys i x → true ≡ one x → target ≡ all (drop i xs) → true ≡ target
found_here one all begins ys xs i x target same h e found inv =
    ap (λ (b : Bool). b || all (drop (i + 1) xs)) found ∙ sym (inv ∙ (ap all (next_there ys xs i x same h e) ∙ begins x (drop (i + 1) xs)))

pub passed_by : {A : Type 0} (one : A → Bool) (all : List A → Bool) → ((x : A) (xs : List A) → all (x ∷ xs) ≡ (one x || all xs)) → (ys xs : List A) (i : ℕ) (x : A) (target : Bool) → ys ≡ xs
    → i < length ys → x ≡ get_or ys i x → false ≡ one x → target ≡ all (drop i xs) → target ≡ all (drop (i + 1) xs)
passed_by one all begins ys xs i x target same h e missed inv =
    inv ∙ (ap all (next_there ys xs i x same h e) ∙ (begins x (drop (i + 1) xs) ∙ sym (ap (λ (b : Bool). b || all (drop (i + 1) xs)) missed)))
