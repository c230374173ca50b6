-- Where a time stands in no pair, another in its place changes none.
use Rattle.std.proofs.Common.{◌≡◌, ◌⊎◌, inl, inr, ◌<◌, ◌≤◌, ℕ, Bool, true, false, nat_eq, if◌then◌else◌, List, [], ◌∷◌, length, map, refl, sym, ap, ap₂, ◌∙◌, true≢false, arith}
use Rattle.std.proofs.lemmas.Bool.{eqb-true, cases_lt}
use Rattle.sp_spec.specs.Lists.{Member}
use Rattle.sp_spec.specs.Change.{time_replaced}
use Rattle.sp_spec_system.specs.Equating.{order_changed}
use Rattle.sp_spec_system.specs.Order.{is_before, last_pair}
use Rattle.sp_law_system.proofs.ShortPaths.{path_before}
use Rattle.sp_order.specs.Ordered.{place}
use Rattle.sp_order.specs.Closed.{IsClosed, cell}
use Rattle.sp_order.proofs.Keeping.{not_same}

-- the times of a pair stand
abbrev Ends : List ℕ → ℕ × ℕ → Type 0
Ends ts p = (place ts p.0 < length ts) × (place ts p.1 < length ts)

cell_within : (ts : List ℕ) (ps : List (ℕ × ℕ)) (rows : List (List Bool)) (w : ℕ) → IsClosed ts ps rows w → (a b : ℕ) → cell rows a b ≡ true → (a < length ts) × (b < length ts)
cell_within ts ps rows w c a b e = at (cases_lt a (length ts)) (cases_lt b (length ts))
  where
    at : (a < length ts) ⊎ (length ts ≤ a) → (b < length ts) ⊎ (length ts ≤ b) → (a < length ts) × (b < length ts)
    at (inl h) (inl k) = (h, k)
    at (inr h) k = absurd (true≢false (sym e ∙ c.no_row a b h))
    at (inl h) (inr k) = absurd (true≢false (sym e ∙ c.no_column a b k))

-- in a closed order the times of each pair stand
ends : (ts : List ℕ) (ps : List (ℕ × ℕ)) (rows : List (List Bool)) (w : ℕ) → IsClosed ts ps rows w → (p : ℕ × ℕ) → Member p ps → Ends ts p
ends ts ps rows w c p m =
    let e : is_before ps p.0 p.1 ≡ true = path_before ps p.0 p.1 (last_pair p m refl refl) in
    let b = cell_within ts ps rows w c (place ts p.0) (place ts p.1) (c.exact p.0 p.1 ∙ e) in
    (b.0, b.1)

other : (ts : List ℕ) (small large t : ℕ) → length ts ≤ place ts large → place ts t < length ts → time_replaced small large t ≡ t
other ts small large t h k =
    ap (λ (b : Bool). if b then small else t) (not_same t large (λ e. let f = ap (place ts) e in absurd (omega (arith, f, h, k))))

pairs_stay : (f : ℕ → ℕ) (ps : List (ℕ × ℕ)) → ((p : ℕ × ℕ) → Member p ps → (f p.0 ≡ p.0) × (f p.1 ≡ p.1)) → map (order_changed f) ps ≡ ps
pairs_stay f [] h = refl
pairs_stay f (p ∷ ps) h =
    let e = h p (inl refl) in
    let same : order_changed f p ≡ p = ap₂ (λ (i j : ℕ). (i, j)) e.0 e.1 in
    ap₂ (λ (q : ℕ × ℕ) (qs : List (ℕ × ℕ)). q ∷ qs) same (pairs_stay f ps (λ q m. h q (inr m)))

pub untouched : (ts : List ℕ) (ps : List (ℕ × ℕ)) (rows : List (List Bool)) (w : ℕ) → IsClosed ts ps rows w → (large : ℕ) → length ts ≤ place ts large → (small : ℕ) → map (order_changed (time_replaced small large)) ps ≡ ps
untouched ts ps rows w c large h small =
    pairs_stay (time_replaced small large) ps
    (λ p m. let e = ends ts ps rows w c p m in (other ts small large p.0 h e.0, other ts small large p.1 h e.1))

itself : (i t : ℕ) → time_replaced i i t ≡ t
itself i t = at (nat_eq t i) refl
  where
    at : (b : Bool) → nat_eq t i ≡ b → (if b then i else t) ≡ t
    at true e = sym (eqb-true t i e)
    at false e = refl

pub by_itself : (i : ℕ) (ps : List (ℕ × ℕ)) → map (order_changed (time_replaced i i)) ps ≡ ps
by_itself i ps = pairs_stay (time_replaced i i) ps (λ p m. (itself i p.0, itself i p.1))
