-- Names sorted by their bytes: where the next one is placed.
use Rattle.std.proofs.Common.{◌≡◌, ℕ, ◌+◌, ◌-◌, ◌<◌, ◌≤◌, zero, suc, Bool, true, false, if◌then◌else◌, List, [], ◌∷◌, ◌++◌, length, map, drop, get_or, refl, sym, ap, ap₂, ◌∙◌, add-one, arith}
use Rattle.std.specs.Ordering.{is_lt, nat_cmp}
use Rattle.std.specs.Prelude.{insert}
use Rattle.std.specs.Cmp.Lexicographic.{slice_cmp}
use Rattle.sp_spec.proofs.Lists.{next_item}
use Rattle.sp_spec_proof.specs.Deciding.{placed_by_bytes, sorted_by_bytes}
use Rattle.sp_undecided.specs.Placing.{count_before}

pub placed_at : (c : List ℕ) (ds : List (List ℕ)) → placed_by_bytes c ds ≡ insert ds (count_before c ds) c
placed_at c [] = refl
placed_at c (d ∷ ds) = at (is_lt (slice_cmp nat_cmp d c)) (placed_at c ds)
  where
    at : (b : Bool) → placed_by_bytes c ds ≡ insert ds (count_before c ds) c
        → (if b then d ∷ placed_by_bytes c ds else c ∷ d ∷ ds) ≡ insert (d ∷ ds) (if b then suc (count_before c ds) else 0) c
    at true e = ap (λ (es : List (List ℕ)). d ∷ es) e
    at false e = refl

pub within : (c : List ℕ) (ds : List (List ℕ)) → count_before c ds ≤ length ds
within c [] = omega arith
within c (d ∷ ds) = at (is_lt (slice_cmp nat_cmp d c)) (within c ds)
  where
    at : (b : Bool) → count_before c ds ≤ length ds → (if b then suc (count_before c ds) else 0) ≤ suc (length ds)
    at true e = omega (arith, e)
    at false e = omega arith

module _ {X : Type 0} (of : X → List ℕ) where
  map_insert : (xs : List X) (k : ℕ) (x : X) → map of (insert xs k x) ≡ insert (map of xs) k (of x)
  map_insert xs zero x = refl
  map_insert [] (suc k) x = refl
  map_insert (y ∷ xs) (suc k) x = ap (λ (cs : List (List ℕ)). of y ∷ cs) (map_insert xs k x)

  -- put at the place that was counted
  pub put_there : (x : X) (old new : List X) (k : ℕ) → k ≡ count_before (of x) (map of old) → new ≡ insert old k x → map of new ≡ placed_by_bytes (of x) (map of old)
  put_there x old new k counted is =
      ap (map of) is ∙ map_insert old k x ∙ ap (λ (j : ℕ). insert (map of old) j (of x)) counted ∙ sym (placed_at (of x) (map of old))

  -- the next one in front, from the last on
  pub next_sorted : (all : List X) (done : ℕ) (x : X) → done < length all → x ≡ get_or all (length all - 1 - done) x
      → sorted_by_bytes (map of (drop (length all - (done + 1)) all)) ≡ placed_by_bytes (of x) (sorted_by_bytes (map of (drop (length all - done) all)))
  next_sorted all done x below is =
      let here : length all - (done + 1) ≡ length all - 1 - done = omega arith in
      let later : length all - 1 - done + 1 ≡ length all - done = omega (arith, below) in
      let there : length all - 1 - done < length all = omega (arith, below) in
      ap (λ (k : ℕ). sorted_by_bytes (map of (drop k all))) here
      ∙ ap (λ (xs : List X). sorted_by_bytes (map of xs)) (next_item all (length all - 1 - done) x there is)
      ∙ ap (λ (k : ℕ). placed_by_bytes (of x) (sorted_by_bytes (map of (drop k all)))) later

  -- how many are before it, as they are gone over
  pub count_next : (c : List ℕ) (all : List X) (k : ℕ) (x : X) (b : Bool) → k < length all → x ≡ get_or all k x → is_lt (slice_cmp nat_cmp (of x) c) ≡ b
      → k + count_before c (map of (drop k all)) ≡ (if b then (k + 1) + count_before c (map of (drop (k + 1) all)) else k)
  count_next c all k x b below is here =
      ap (λ (xs : List X). k + count_before c (map of xs)) (next_item all k x below is)
      ∙ ap (λ (t : Bool). k + (if t then suc (count_before c (map of (drop (k + 1) all))) else 0)) here
      ∙ at b (count_before c (map of (drop (k + 1) all)))
    where
      at : (t : Bool) (n : ℕ) → k + (if t then suc n else 0) ≡ (if t then (k + 1) + n else k)
      at true n = omega arith
      at false n = omega arith
