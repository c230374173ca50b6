-- What stands at a place under binders, and how one goes under them.
use Rattle.std.proofs.Common.{◌≡◌, ◌<◌, ◌≤◌, ◌+◌, ℕ, zero, suc, List, ◌∷◌, length, map, drop, refl, sym, ap, ◌∙◌, arith, slice_index_or}
use Rattle.std.proofs.lemmas.List.{drop_more, drop_all}
use Rattle.sp_spec.specs.Guarded as spec
use Rattle.sp_spec.specs.Change.{Change, under}
use Rattle.sp_formula.specs.FormulaView.{binder_of}
use Rattle.sp_formula.specs.declared.formula.Binder.{Binder}
use Rattle.sp_rows_formula.specs.InsideView.{lifted, under_one}

module _ {A : Type 0} (place : ℕ → A) (raise : A → A) (one : (k : ℕ) → raise (place k) ≡ place (suc k)) where
  -- an inner place is its own
  pub lifted_inside : (n : ℕ) (f : ℕ → A) (k : ℕ) → k < n → lifted place raise n f k ≡ place k
  lifted_inside zero f k h = absurd (omega (arith, h))
  lifted_inside (suc n) f zero h = refl
  lifted_inside (suc n) f (suc k) h = ap raise (lifted_inside n f k (omega (arith, h))) ∙ one k

  -- beyond the inner places stands what isn't raised
  pub stays_past : (n : ℕ) (f : ℕ → A) (k j : ℕ) (a : A) → k ≡ n + j → f j ≡ a → raise a ≡ a → lifted place raise n f k ≡ a
  stays_past zero f k j a e is same = ap f (omega (arith, e)) ∙ is
  stays_past (suc n) f zero j a e is same = absurd (omega (arith, e))
  stays_past (suc n) f (suc k) j a e is same = ap raise (stays_past n f k j a (omega (arith, e)) is same) ∙ same

  -- or a place that is n further out
  pub moves_past : (n : ℕ) (f : ℕ → A) (k j i m : ℕ) → k ≡ n + j → f j ≡ place i → m ≡ n + i → lifted place raise n f k ≡ place m
  moves_past zero f k j i m e is d = ap f (omega (arith, e)) ∙ is ∙ ap place (omega (arith, d))
  moves_past (suc n) f zero j i m e is d = absurd (omega (arith, e))
  moves_past (suc n) f (suc k) j i zero e is d = absurd (omega (arith, d))
  moves_past (suc n) f (suc k) j i (suc m) e is d = ap raise (moves_past n f k j i m (omega (arith, e)) is (omega (arith, d))) ∙ one m

under_first : (b : spec.Binder) (bs : List spec.Binder) (c : Change) → under (b ∷ bs) c ≡ under bs (under_one b c)
under_first (spec.message sort) bs c = refl
under_first spec.time bs c = refl

-- one turn of a loop over binders in memory
pub under_more : (items : List Binder) (i : ℕ) (z : Binder) (c d : Change) → i < length items → d ≡ under_one (binder_of (slice_index_or items i z)) c
    → under (map binder_of (drop i items)) c ≡ under (map binder_of (drop (i + 1) items)) d
under_more items i z c d h e =
    let b = slice_index_or items i z in
    ap (λ (bs : List Binder). under (map binder_of bs) c) (drop_more items i z h)
    ∙ under_first (binder_of b) (map binder_of (drop (i + 1) items)) c
    ∙ ap (under (map binder_of (drop (i + 1) items))) (sym e)

pub under_nothing : (items : List Binder) (i : ℕ) (c : Change) → length items ≤ i → under (map binder_of (drop i items)) c ≡ c
under_nothing items i c h = ap (λ (bs : List Binder). under (map binder_of bs) c) (drop_all i items h)
