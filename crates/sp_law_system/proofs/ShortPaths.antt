-- Paths of order pairs: a path of any length has one that takes no pair twice, so times that are before each other are so in a row.
use Rattle.std.proofs.Common.{◌≡◌, ◌⊎◌, ⊎_elim, ◌≤◌, ◌<◌, ℕ, zero, suc, Bool, true, false, ◌&&◌, ◌||◌, ◌==◌, nat_eq, if◌then◌else◌, List, [], ◌∷◌, length, inl, inr, refl, sym, ap, ap₂, ◌∙◌, subst, true≢false, arith}
use Rattle.std.proofs.lemmas.Bool.{or_cases, and_parts, and_from, eqb-true, eq-eqb, or_right, or_left, or_parts}
use Rattle.sp_spec.specs.Lists.{Member}
use Rattle.sp_law_system.specs.Laws.{BeforeIsAPath}
use Rattle.sp_spec_system.specs.Order.{Path, last_pair, then_path, some_pair, path_within, is_before, begins_cycle, is_cyclic}

abbrev pub Pairs : Type 0
Pairs = List (ℕ × ℕ)

path_path : (order : Pairs) (i j k : ℕ) → Path order i j → Path order j k → Path order i k
path_path order i j k (last_pair p m b e) w = then_path p m b (subst (λ (t : ℕ). Path order t k) (sym e) w)
path_path order i j k (then_path p m b v) w = then_path p m b (path_path order p.1 j k v w)

-- ---- a path within so many pairs, and a path

pub some_pair_is : (pairs : Pairs) (i : ℕ) (leads : ℕ → Bool) → some_pair pairs i leads ≡ true → (p : ℕ × ℕ) × Member p pairs × (p.0 ≡ i) × (leads p.1 ≡ true)
some_pair_is [] i leads e = absurd cc
some_pair_is (p ∷ pairs) i leads e =
    ⊎_elim
    (λ k. let both = and_parts (nat_eq p.0 i) (leads p.1) k in (p, inl refl, eqb-true p.0 i both.0, both.1))
    (λ k. let r = some_pair_is pairs i leads k in (r.0, inr r.1, r.2, r.3))
    (or_cases (nat_eq p.0 i && leads p.1) (some_pair pairs i leads) e)

is_some_pair : (pairs : Pairs) (i : ℕ) (leads : ℕ → Bool) (p : ℕ × ℕ) → Member p pairs → p.0 ≡ i → leads p.1 ≡ true → some_pair pairs i leads ≡ true
is_some_pair [] i leads p m b e = absurd m
is_some_pair (q ∷ pairs) i leads p (inl m) b e =
    or_left (nat_eq q.0 i && leads q.1) (some_pair pairs i leads)
    (and_from (nat_eq q.0 i) (leads q.1) (eq-eqb q.0 i (ap (λ (r : ℕ × ℕ). r.0) m ∙ b)) (ap (λ (r : ℕ × ℕ). leads r.1) m ∙ e))
is_some_pair (q ∷ pairs) i leads p (inr m) b e = or_right (nat_eq q.0 i && leads q.1) (some_pair pairs i leads) (is_some_pair pairs i leads p m b e)

pub path_of : (n : ℕ) (order : Pairs) (i j : ℕ) → path_within n order i j ≡ true → Path order i j
path_of zero order i j e = absurd cc
path_of (suc n) order i j e =
    let r = some_pair_is order i (λ k. (k == j) || path_within n order k j) e in
    ⊎_elim (λ k. last_pair r.0 r.1 r.2 (eqb-true r.0.1 j k)) (λ k. then_path r.0 r.1 r.2 (path_of n order r.0.1 j k)) (or_cases (r.0.1 == j) (path_within n order r.0.1 j) r.3)

-- ---- a pair is taken once at most

abbrev same_pair : ℕ × ℕ → ℕ × ℕ → Bool
same_pair p q = nat_eq p.0 q.0 && nat_eq p.1 q.1

is_same : (p q : ℕ × ℕ) → same_pair p q ≡ true → p ≡ q
is_same p q e =
    let both = and_parts (nat_eq p.0 q.0) (nat_eq p.1 q.1) e in
    ap₂ (λ (i j : ℕ). (i, j)) (eqb-true p.0 q.0 both.0) (eqb-true p.1 q.1 both.1)

same_itself : (p q : ℕ × ℕ) → p ≡ q → same_pair p q ≡ true
same_itself p q e =
    and_from (nat_eq p.0 q.0) (nat_eq p.1 q.1) (eq-eqb p.0 q.0 (ap (λ (r : ℕ × ℕ). r.0) e)) (eq-eqb p.1 q.1 (ap (λ (r : ℕ × ℕ). r.1) e))

abbrev without : ℕ × ℕ → Pairs → Pairs
without q [] = []
without q (p ∷ pairs) = if same_pair p q then without q pairs else p ∷ without q pairs

is_other : (q p : ℕ × ℕ) (pairs : Pairs) → Member p pairs → (p ≡ q) ⊎ Member p (without q pairs)
is_other q p [] m = absurd m
is_other q p (r ∷ pairs) m = at (same_pair r q) refl m (λ k. is_other q p pairs k)
  where
    at : (b : Bool) → same_pair r q ≡ b → (r ≡ p) ⊎ Member p pairs → (Member p pairs → (p ≡ q) ⊎ Member p (without q pairs))
        → (p ≡ q) ⊎ Member p (if b then without q pairs else r ∷ without q pairs)
    at true s (inl e) later = inl (sym e ∙ is_same r q s)
    at true s (inr k) later = later k
    at false s (inl e) later = inr (inl e)
    at false s (inr k) later = ⊎_elim (λ l. inl l) (λ l. inr (inr l)) (later k)

was_there : (q p : ℕ × ℕ) (pairs : Pairs) → Member p (without q pairs) → Member p pairs
was_there q p [] m = absurd m
was_there q p (r ∷ pairs) m = at (same_pair r q) m (λ k. was_there q p pairs k)
  where
    at : (b : Bool) → Member p (if b then without q pairs else r ∷ without q pairs) → (Member p (without q pairs) → Member p pairs) → (r ≡ p) ⊎ Member p pairs
    at true k later = inr (later k)
    at false (inl e) later = inl e
    at false (inr k) later = inr (later k)

no_more : (q : ℕ × ℕ) (pairs : Pairs) → length (without q pairs) ≤ length pairs
no_more q [] = omega arith
no_more q (p ∷ pairs) = at (same_pair p q) (no_more q pairs)
  where
    at : (b : Bool) → length (without q pairs) ≤ length pairs → length (if b then without q pairs else p ∷ without q pairs) ≤ suc (length pairs)
    at true h = omega arith
    at false h = omega arith

fewer : (q : ℕ × ℕ) (pairs : Pairs) → Member q pairs → length (without q pairs) < length pairs
fewer q [] m = absurd m
fewer q (p ∷ pairs) m = at (same_pair p q) refl m (λ k. fewer q pairs k)
  where
    at : (b : Bool) → same_pair p q ≡ b → (p ≡ q) ⊎ Member q pairs → (Member q pairs → length (without q pairs) < length pairs)
        → length (if b then without q pairs else p ∷ without q pairs) < suc (length pairs)
    at true s k later = let h = no_more q pairs in omega arith
    at false s (inl e) later = absurd (true≢false (sym (same_itself p q e) ∙ s))
    at false s (inr k) later = let h = later k in omega arith

-- the part behind the last place at which the pair is taken
behind_last : (q : ℕ × ℕ) (order : Pairs) (i j : ℕ) → Path order i j → Path (without q order) i j ⊎ ((q.1 ≡ j) ⊎ Path (without q order) q.1 j)
behind_last q order i j (last_pair p m b e) =
    ⊎_elim (λ s. inr (inl (ap (λ (r : ℕ × ℕ). r.1) (sym s) ∙ e))) (λ k. inl (last_pair p k b e)) (is_other q p order m)
behind_last q order i j (then_path p m b w) = at (behind_last q order p.1 j w) (is_other q p order m)
  where
    at : Path (without q order) p.1 j ⊎ ((q.1 ≡ j) ⊎ Path (without q order) q.1 j) → (p ≡ q) ⊎ Member p (without q order)
        → Path (without q order) i j ⊎ ((q.1 ≡ j) ⊎ Path (without q order) q.1 j)
    at (inr rest) s = inr rest
    at (inl rest) (inl s) = inr (inr (subst (λ (r : ℕ × ℕ). Path (without q order) r.1 j) s rest))
    at (inl rest) (inr k) = inl (then_path p k b rest)

more_pairs : (n : ℕ) (small large : Pairs) → ((p : ℕ × ℕ) → Member p small → Member p large) → (i j : ℕ) → path_within n small i j ≡ true → path_within n large i j ≡ true
more_pairs zero small large h i j e = absurd cc
more_pairs (suc n) small large h i j e =
    let r = some_pair_is small i (λ k. (k == j) || path_within n small k j) e in
    is_some_pair large i (λ k. (k == j) || path_within n large k j) r.0 (h r.0 r.1) r.2
    (⊎_elim
    (λ k. or_left (r.0.1 == j) (path_within n large r.0.1 j) k)
    (λ k. or_right (r.0.1 == j) (path_within n large r.0.1 j) (more_pairs n small large h r.0.1 j k))
    (or_cases (r.0.1 == j) (path_within n small r.0.1 j) r.3))

-- the first pair of a path, and what follows when it is taken no more
record Start (order : Pairs) (i j : ℕ) : Type 0 where
  pair : ℕ × ℕ
  there : Member pair order
  begins : pair.0 ≡ i
  goes_on : (pair.1 ≡ j) ⊎ Path (without pair order) pair.1 j

start : (order : Pairs) (i j : ℕ) → Path order i j → Start order i j
start order i j (last_pair p m b e) = record { pair = p; there = m; begins = b; goes_on = inl e }
start order i j (then_path p m b w) =
    record { pair = p; there = m; begins = b; goes_on = ⊎_elim (λ (v : Path (without p order) p.1 j). inr v) (λ (v : (p.1 ≡ j) ⊎ Path (without p order) p.1 j). v) (behind_last p order p.1 j w) }

pub short : (n : ℕ) (order : Pairs) → length order ≤ n → (i j : ℕ) → Path order i j → path_within n order i j ≡ true
short zero order h i j w = let s = start order i j w in let f = fewer s.pair order s.there in absurd (omega arith)
short (suc n) order h i j w =
    let s = start order i j w in
    let f = fewer s.pair order s.there in
    let within : length (without s.pair order) ≤ n = omega arith in
    is_some_pair order i (λ k. (k == j) || path_within n order k j) s.pair s.there s.begins
    (⊎_elim
    (λ e. or_left (s.pair.1 == j) (path_within n order s.pair.1 j) (eq-eqb s.pair.1 j e))
    (λ v.
    or_right (s.pair.1 == j) (path_within n order s.pair.1 j)
    (more_pairs n (without s.pair order) order (λ p m. was_there s.pair p order m) s.pair.1 j (short n (without s.pair order) within s.pair.1 j v)))
    s.goes_on)

-- ---- times that are before each other

pub before_before : (order : Pairs) (i j k : ℕ) → is_before order i j ≡ true → is_before order j k ≡ true → is_before order i k ≡ true
before_before order i j k e f = short (length order) order (omega arith) i k (path_path order i j k (path_of (length order) order i j e) (path_of (length order) order j k f))

no_cycle_at : (order pairs : Pairs) → begins_cycle order pairs ≡ false → (p : ℕ × ℕ) → Member p pairs → is_before order p.0 p.0 ≡ false
no_cycle_at order [] e p m = absurd m
no_cycle_at order (q ∷ pairs) e p (inl s) = subst (λ (r : ℕ × ℕ). is_before order r.0 r.0 ≡ false) s (or_parts (is_before order q.0 q.0) (begins_cycle order pairs) e).0
no_cycle_at order (q ∷ pairs) e p (inr m) = no_cycle_at order pairs (or_parts (is_before order q.0 q.0) (begins_cycle order pairs) e).1 p m

pub not_before_itself : (order : Pairs) → is_cyclic order ≡ false → (i : ℕ) → is_before order i i ≡ false
not_before_itself order e i = at (is_before order i i) refl
  where
    at : (b : Bool) → is_before order i i ≡ b → b ≡ false
    at false s = refl
    at true s =
        let r = start order i i (path_of (length order) order i i s) in
        absurd (true≢false (sym s ∙ subst (λ (t : ℕ). is_before order t t ≡ false) r.begins (no_cycle_at order order e r.pair r.there)))

-- ---- the tests tell paths and cycles

pub begins_path : (order pairs : Pairs) → begins_cycle order pairs ≡ true → (i : ℕ) × Path order i i
begins_path order [] e = absurd cc
begins_path order (p ∷ pairs) e =
    ⊎_elim (λ k. (p.0, path_of (length order) order p.0 p.0 k)) (λ k. begins_path order pairs k) (or_cases (is_before order p.0 p.0) (begins_cycle order pairs) e)

pub path_before : (order : Pairs) (i j : ℕ) → Path order i j → is_before order i j ≡ true
path_before order i j w = short (length order) order (omega arith) i j w

pub has_cycle : (order : Pairs) → (i : ℕ) × Path order i i → is_cyclic order ≡ true
has_cycle order w = at (is_cyclic order) refl
  where
    at : (b : Bool) → is_cyclic order ≡ b → b ≡ true
    at true e = refl
    at false e = absurd (true≢false (sym (path_before order w.0 w.0 w.1) ∙ not_before_itself order e w.0))

pub before_is_a_path_lem : BeforeIsAPath
before_is_a_path_lem = record {
  path = λ order i j. ((λ e. path_of (length order) order i j e), (λ w. path_before order i j w));
  cycle = λ order. ((λ e. begins_path order order e), (λ w. has_cycle order w));
}
