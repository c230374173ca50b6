-- Names that are looked up by a test instead of in lists with the newest first.
use Rattle.std.proofs.Common.{◌≡◌, ℕ, ◌+◌, ◌<◌, Bool, true, false, ◌||◌, if◌then◌else◌, List, [], ◌∷◌, ◌++◌, map, drop, length, get_or, refl, sym, ap, ap₂, ◌∙◌, append_assoc}
use Rattle.std.proofs.lemmas.List.{get_or_default}
use Rattle.std.proofs.lemmas.Slice.Eq.{bytes_eq-Decides}
use Rattle.std.specs.Str.{bytes_eq}
use Rattle.sp_spec.specs.Lists.{is_listed}
use Rattle.sp_spec.specs.Constants.{once_after}
use Rattle.sp_spec.proofs.Lists.{next_there}
use Rattle.sp_spec_text.specs.Written.{Item}
use Rattle.sp_finding.specs.Finding.{Finding, used_twice, told, lines_after}
use Rattle.sp_finding.proofs.Telling.{told_on, told_both}
use Rattle.sp_wf.specs.ItemFindings.{names_of_rules, names_of_statements, told_again, repeated}
use Rattle.sp_wf.specs.Told.{or_one_of, again, item_again, all_again}

abbrev Same : (List ℕ → Bool) → (List ℕ → Bool) → Type 0
Same f g = (q : List ℕ) → f q ≡ g q

-- ---- only what the tests say of names matters

or_same : (xs : List (List ℕ)) (f g : List ℕ → Bool) → Same f g → Same (or_one_of xs f) (or_one_of xs g)
or_same [] f g e = e
or_same (x ∷ xs) f g e = λ q. ap (λ (b : Bool). bytes_eq x q || b) (or_same xs f g e q)

again_same : (say : List ℕ → Finding) (f g : List ℕ → Bool) (xs : List (List ℕ)) → Same f g → again say f xs ≡ again say g xs
again_same say f g [] e = refl
again_same say f g (x ∷ xs) e =
    ap₂ (λ (b : Bool) (fs : List Finding). told b (say x) fs) (e x)
    (again_same say (λ q. bytes_eq x q || f q) (λ q. bytes_eq x q || g q) xs (λ q. ap (λ (b : Bool). bytes_eq x q || b) (e q)))

all_same : (f g h k : List ℕ → Bool) (xs : List Item) → Same f g → Same h k → all_again f h xs ≡ all_again g k xs
all_same f g h k [] e d = refl
all_same f g h k (x ∷ xs) e d =
    ap₂ (λ (as' bs : List Finding). (as' ++ bs) ++ all_again (or_one_of (names_of_rules x) f) (or_one_of (names_of_statements x) h) xs)
    (again_same used_twice f g (names_of_rules x) e) (again_same used_twice h k (names_of_statements x) d)
    ∙ ap (λ (fs : List Finding). item_again g k x ++ fs)
    (all_same (or_one_of (names_of_rules x) f) (or_one_of (names_of_rules x) g) (or_one_of (names_of_statements x) h) (or_one_of (names_of_statements x) k) xs
    (or_same (names_of_rules x) f g e) (or_same (names_of_statements x) h k d))

-- ---- names that are looked up in lists

or_listed : (xs before : List (List ℕ)) → Same (or_one_of xs (λ q. is_listed q before)) (λ q. is_listed q (xs ++ before))
or_listed [] before = λ q. refl
or_listed (x ∷ xs) before = λ q. ap (λ (b : Bool). bytes_eq x q || b) (or_listed xs before q)

again_listed : (say : List ℕ → Finding) (before xs : List (List ℕ)) → again say (λ q. is_listed q before) xs ≡ told_again say before xs
again_listed say before [] = refl
again_listed say before (x ∷ xs) = ap (told (is_listed x before) (say x)) (again_listed say (x ∷ before) xs)

all_listed : (rs ls : List (List ℕ)) (xs : List Item) → all_again (λ q. is_listed q rs) (λ q. is_listed q ls) xs ≡ repeated rs ls xs
all_listed rs ls [] = refl
all_listed rs ls (x ∷ xs) =
    let mine = names_of_rules x in
    let own = names_of_statements x in
    let others = all_again (or_one_of mine (λ q. is_listed q rs)) (or_one_of own (λ q. is_listed q ls)) xs in
    ap₂ (λ (as' bs : List Finding). (as' ++ bs) ++ others) (again_listed used_twice rs mine) (again_listed used_twice ls own)
    ∙ append_assoc (told_again used_twice rs mine) (told_again used_twice ls own) others
    ∙ ap (λ (fs : List Finding). told_again used_twice rs mine ++ (told_again used_twice ls own ++ fs))
    (all_same (or_one_of mine (λ q. is_listed q rs)) (λ q. is_listed q (mine ++ rs)) (or_one_of own (λ q. is_listed q ls)) (λ q. is_listed q (own ++ ls)) xs (or_listed mine rs) (or_listed own ls)
    ∙ all_listed (mine ++ rs) (own ++ ls) xs)

-- ---- at first there are no names

pub none_before : (f h : List ℕ → Bool) (xs : List Item) → ((q : List ℕ) → f q ≡ false) → ((q : List ℕ) → h q ≡ false) → all_again f h xs ≡ repeated [] [] xs
none_before f h xs e d = all_same f (λ q. false) h (λ q. false) xs e d ∙ all_listed [] [] xs

pub none_seen : (say : List ℕ → Finding) (f : List ℕ → Bool) (xs : List (List ℕ)) → ((q : List ℕ) → f q ≡ false) → again say f xs ≡ told_again say [] xs
none_seen say f xs e = again_same say f (λ q. false) xs e ∙ again_listed say [] xs

-- ---- one item, or one name, and then the others

pub next_again : (a b target : List (List ℕ)) (f g h k : List ℕ → Bool) (x : Item) (xs : List Item) → b ≡ lines_after a (item_again f h x) → ((q : List ℕ) → g q ≡ or_one_of (names_of_rules x) f q)
    → ((q : List ℕ) → k q ≡ or_one_of (names_of_statements x) h q) → lines_after a (all_again f h (x ∷ xs)) ≡ target → lines_after b (all_again g k xs) ≡ target
next_again a b target f g h k x xs e rs ls inv =
    ap₂ lines_after e (all_same g (or_one_of (names_of_rules x) f) k (or_one_of (names_of_statements x) h) xs rs ls)
    ∙ told_both (item_again f h x) a (all_again (or_one_of (names_of_rules x) f) (or_one_of (names_of_statements x) h) xs) ∙ inv

pub next_name : {A : Type 0} (view : A → Item) (ys xs : List A) (i : ℕ) (x : A) (a b target : List (List ℕ)) (f g h k : List ℕ → Bool) → ys ≡ xs → i < length ys → x ≡ get_or ys i x
    → b ≡ lines_after a (item_again f h (view x)) → ((q : List ℕ) → g q ≡ or_one_of (names_of_rules (view x)) f q) → ((q : List ℕ) → k q ≡ or_one_of (names_of_statements (view x)) h q)
    → lines_after a (all_again f h (map view (drop i xs))) ≡ target → lines_after b (all_again g k (map view (drop (i + 1) xs))) ≡ target
next_name view ys xs i x a b target f g h k same less e told rs ls inv =
    next_again a b target f g h k (view x) (map view (drop (i + 1) xs)) told rs ls (ap (λ zs. lines_after a (all_again f h (map view zs))) (sym (next_there ys xs i x same less e)) ∙ inv)

pub next_seen : {A : Type 0} (say : List ℕ → Finding) (view : A → List ℕ) (ys xs : List A) (i : ℕ) (d : A) (a b target : List (List ℕ)) (f g : List ℕ → Bool) → ys ≡ xs → i < length ys
    → b ≡ lines_after a (told (f (view (get_or ys i d))) (say (view (get_or ys i d))) []) → ((q : List ℕ) → g q ≡ (bytes_eq (view (get_or ys i d)) q || f q))
    → lines_after a (again say f (map view (drop i xs))) ≡ target → lines_after b (again say g (map view (drop (i + 1) xs))) ≡ target
next_seen say view ys xs i d a b target f g same less told put inv =
    let x = get_or ys i d in
    let n = view x in
    let rest = map view (drop (i + 1) xs) in
    ap₂ lines_after told (again_same say g (λ q. bytes_eq n q || f q) rest put)
    ∙ told_on a (f n) (say n) (again say (λ q. bytes_eq n q || f q) rest)
    ∙ ap (λ zs. lines_after a (again say f (map view zs))) (sym (next_there ys xs i x same less (get_or_default ys i d x less))) ∙ inv

-- ---- names that are put among others

pub no_names : (names : List (List ℕ)) → names ≡ [] → (q : List ℕ) → is_listed q names ≡ false
no_names names e q = ap (is_listed q) e

behind : (name q : List ℕ) (names : List (List ℕ)) → is_listed q (names ++ name ∷ []) ≡ (bytes_eq name q || is_listed q names)
behind name q [] = refl
behind name q (x ∷ names) = ap (λ (b : Bool). bytes_eq x q || b) (behind name q names) ∙ turned (bytes_eq x q) (bytes_eq name q) (is_listed q names)
  where
    turned : (a b c : Bool) → (a || (b || c)) ≡ (b || (a || c))
    turned true true c = refl
    turned true false c = refl
    turned false b c = refl

there_already : (name q : List ℕ) (names : List (List ℕ)) → is_listed name names ≡ true → is_listed q names ≡ (bytes_eq name q || is_listed q names)
there_already name q names e = at (bytes_eq name q) refl
  where
    at : (b : Bool) → bytes_eq name q ≡ b → is_listed q names ≡ (b || is_listed q names)
    at true k = ap (λ (n : List ℕ). is_listed n names) (sym ((bytes_eq-Decides name q).0 k)) ∙ e
    at false k = refl

pub one_more : (name key q : List ℕ) (names after : List (List ℕ)) → key ≡ name → after ≡ once_after names (key ∷ []) → is_listed q after ≡ (bytes_eq name q || is_listed q names)
one_more name key q names after same e = ap (is_listed q) e ∙ at (is_listed key names) refl ∙ ap (λ (n : List ℕ). bytes_eq n q || is_listed q names) same
  where
    at : (b : Bool) → is_listed key names ≡ b → is_listed q (if b then names else names ++ key ∷ []) ≡ (bytes_eq key q || is_listed q names)
    at true k = there_already key q names k
    at false k = behind key q names
