-- A pair more: from a time leads a path to another if one led there before, or one led to the pair's first time, or it is that time, and
-- from the pair's second time one led there, or it is that time.
use Rattle.std.proofs.Common.{◌≡◌, ◌⊎◌, ⊎_elim, ℕ, Bool, true, false, ◌&&◌, ◌||◌, nat_eq, [], ◌∷◌, ◌++◌, inl, inr, refl, sym, ap, ◌∙◌, subst}
use Rattle.std.proofs.lemmas.Bool.{or_cases, and_parts, and_from, eqb-true, eq-eqb, or_right, or_left}
use Rattle.sp_spec.proofs.Bools.{same_tests}
use Rattle.sp_spec.specs.Lists.{Member}
use Rattle.sp_spec_system.specs.Order.{Path, last_pair, then_path, is_before}
use Rattle.sp_law_system.proofs.ShortPaths.{Pairs, path_of, path_before, before_before}

pub of_member : (pairs : Pairs) (q p : ℕ × ℕ) → Member p (pairs ++ q ∷ []) → Member p pairs ⊎ (q ≡ p)
of_member [] q p (inl e) = inr e
of_member [] q p (inr m) = absurd m
of_member (r ∷ pairs) q p (inl e) = inl (inl e)
of_member (r ∷ pairs) q p (inr m) = ⊎_elim (λ k. inl (inr k)) (λ e. inr e) (of_member pairs q p m)

pub member_left : (pairs more : Pairs) (p : ℕ × ℕ) → Member p pairs → Member p (pairs ++ more)
member_left [] more p m = absurd m
member_left (r ∷ pairs) more p (inl e) = inl e
member_left (r ∷ pairs) more p (inr m) = inr (member_left pairs more p m)

pub member_last : (pairs : Pairs) (p : ℕ × ℕ) → Member p (pairs ++ p ∷ [])
member_last [] p = inl refl
member_last (r ∷ pairs) p = inr (member_last pairs p)

abbrev Through : Pairs → ℕ × ℕ → ℕ → ℕ → Type 0
Through pairs q s t = (Path pairs s t) ⊎ (((s ≡ q.0) ⊎ Path pairs s q.0) × ((q.1 ≡ t) ⊎ Path pairs q.1 t))

through : (pairs : Pairs) (q : ℕ × ℕ) (s t : ℕ) → Path (pairs ++ q ∷ []) s t → Through pairs q s t
through pairs q s t (last_pair p m b e) = at (of_member pairs q p m)
  where
    at : Member p pairs ⊎ (q ≡ p) → Through pairs q s t
    at (inl k) = inl (last_pair p k b e)
    at (inr r) = inr (inl (sym b ∙ ap (λ (x : ℕ × ℕ). x.0) (sym r)), inl (ap (λ (x : ℕ × ℕ). x.1) r ∙ e))
through pairs q s t (then_path p m b w) = at (of_member pairs q p m) (through pairs q p.1 t w)
  where
    at : Member p pairs ⊎ (q ≡ p) → Through pairs q p.1 t → Through pairs q s t
    at (inl k) (inl v) = inl (then_path p k b v)
    at (inl k) (inr r) =
        inr (⊎_elim (λ e. inr (last_pair p k b e)) (λ v. inr (then_path p k b v)) r.0, r.1)
    at (inr r) (inl v) =
        inr (inl (sym b ∙ ap (λ (x : ℕ × ℕ). x.0) (sym r)), inr (subst (λ (x : ℕ × ℕ). Path pairs x.1 t) (sym r) v))
    at (inr r) (inr v) = inr (inl (sym b ∙ ap (λ (x : ℕ × ℕ). x.0) (sym r)), v.1)

old_path : (pairs : Pairs) (q : ℕ × ℕ) (s t : ℕ) → Path pairs s t → Path (pairs ++ q ∷ []) s t
old_path pairs q s t (last_pair p m b e) = last_pair p (member_left pairs (q ∷ []) p m) b e
old_path pairs q s t (then_path p m b w) = then_path p (member_left pairs (q ∷ []) p m) b (old_path pairs q p.1 t w)

from_second : (pairs : Pairs) (q : ℕ × ℕ) (s t : ℕ) → s ≡ q.0 → (q.1 ≡ t) ⊎ Path pairs q.1 t → Path (pairs ++ q ∷ []) s t
from_second pairs q s t b (inl e) = last_pair q (member_last pairs q) (sym b) e
from_second pairs q s t b (inr w) = then_path q (member_last pairs q) (sym b) (old_path pairs q q.1 t w)

-- the bits of a row after a pair (i, j) more: if the row has i or is i's, those of j's row, and j
abbrev pub closed_by : (ℕ → ℕ → Bool) → ℕ → ℕ → ℕ → ℕ → Bool
closed_by leads i j s t = leads s t || ((nat_eq s i || leads s i) && (leads j t || nat_eq j t))

or_from : (a b : Bool) → (a ≡ true) ⊎ (b ≡ true) → (a || b) ≡ true
or_from a b (inl e) = or_left a b e
or_from a b (inr e) = or_right a b e

path : (order : Pairs) (s t : ℕ) → is_before order s t ≡ true → Path order s t
path order s t e = path_of _ order s t e

pub before_closed : (pairs : Pairs) (i j s t : ℕ) → is_before (pairs ++ (i, j) ∷ []) s t ≡ closed_by (is_before pairs) i j s t
before_closed pairs i j s t = same_tests (is_before (pairs ++ (i, j) ∷ []) s t) (closed_by (is_before pairs) i j s t) forth back
  where
    first : (s ≡ i) ⊎ Path pairs s i → (nat_eq s i || is_before pairs s i) ≡ true
    first (inl e) = or_left (nat_eq s i) (is_before pairs s i) (eq-eqb s i e)
    first (inr w) = or_right (nat_eq s i) (is_before pairs s i) (path_before pairs s i w)

    second : (j ≡ t) ⊎ Path pairs j t → (is_before pairs j t || nat_eq j t) ≡ true
    second (inl e) = or_right (is_before pairs j t) (nat_eq j t) (eq-eqb j t e)
    second (inr w) = or_left (is_before pairs j t) (nat_eq j t) (path_before pairs j t w)

    told : Through pairs (i, j) s t → closed_by (is_before pairs) i j s t ≡ true
    told (inl w) = or_left (is_before pairs s t) ((nat_eq s i || is_before pairs s i) && (is_before pairs j t || nat_eq j t)) (path_before pairs s t w)
    told (inr b) =
        or_right (is_before pairs s t) ((nat_eq s i || is_before pairs s i) && (is_before pairs j t || nat_eq j t))
        (and_from (nat_eq s i || is_before pairs s i) (is_before pairs j t || nat_eq j t) (first b.0) (second b.1))

    forth : is_before (pairs ++ (i, j) ∷ []) s t ≡ true → closed_by (is_before pairs) i j s t ≡ true
    forth e = told (through pairs (i, j) s t (path (pairs ++ (i, j) ∷ []) s t e))

    to_second : (is_before pairs j t || nat_eq j t) ≡ true → (j ≡ t) ⊎ Path pairs j t
    to_second e = ⊎_elim (λ k. inr (path pairs j t k)) (λ k. inl (eqb-true j t k)) (or_cases (is_before pairs j t) (nat_eq j t) e)

    onward : ((nat_eq s i || is_before pairs s i) && (is_before pairs j t || nat_eq j t)) ≡ true → is_before (pairs ++ (i, j) ∷ []) s t ≡ true
    onward e =
        let both = and_parts (nat_eq s i || is_before pairs s i) (is_before pairs j t || nat_eq j t) e in
        let rest : Path (pairs ++ (i, j) ∷ []) i t = from_second pairs (i, j) i t refl (to_second both.1) in
        ⊎_elim
        (λ k. path_before (pairs ++ (i, j) ∷ []) s t (subst (λ (x : ℕ). Path (pairs ++ (i, j) ∷ []) x t) (sym (eqb-true s i k)) rest))
        (λ k. before_before (pairs ++ (i, j) ∷ []) s i t (path_before (pairs ++ (i, j) ∷ []) s i (old_path pairs (i, j) s i (path pairs s i k))) (path_before (pairs ++ (i, j) ∷ []) i t rest))
        (or_cases (nat_eq s i) (is_before pairs s i) both.0)

    back : closed_by (is_before pairs) i j s t ≡ true → is_before (pairs ++ (i, j) ∷ []) s t ≡ true
    back e =
        ⊎_elim
        (λ k. path_before (pairs ++ (i, j) ∷ []) s t (old_path pairs (i, j) s t (path pairs s t k)))
        (λ k. onward k)
        (or_cases (is_before pairs s t) ((nat_eq s i || is_before pairs s i) && (is_before pairs j t || nat_eq j t)) e)
