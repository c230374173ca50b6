-- The first open leaf of the least class is found among blocks, and growth in its block is growth of the whole list.
use Rattle.std.proofs.Common.{◌≡◌, ◌∙◌, ℕ, zero, suc, ◌+◌, ◌<◌, Bool, true, false, List, [], ◌∷◌, ◌++◌, take, drop, length, Option, Some, None, refl, sym, ap, ap₂, subst, arith}
use Rattle.std.specs.Prelude.{if◌then◌else◌, nat_lt}
use Rattle.std.proofs.lemmas.Bool.Decides.{nat_tests}
use Rattle.std.proofs.lemmas.List.{append_assoc}
use Rattle.sp_spec_system.specs.Move.{Context}
use Rattle.sp_search.specs.Kinds.{Kind}
use Rattle.sp_search.specs.Turning.{class_at, sooner, placed, first_least, in_place_of, grown_at}
use Rattle.sp_search.specs.InBlocks.{joined, sooner_spot, spot, first_spot, block_at, with_block, grown_in_block}

-- ---- places in a list that is joined from two

sooner_regroup : (a b c : Option (ℕ × ℕ)) → sooner (sooner a b) c ≡ sooner a (sooner b c)
sooner_regroup None b c = refl
sooner_regroup (Some a) None c = refl
sooner_regroup (Some a) (Some b) None = by_first (nat_lt b.1 a.1)
  where
    by_first : (t : Bool) → sooner (let r : Option (ℕ × ℕ) = if t then Some b else Some a in r) None ≡ (if t then Some b else Some a)
    by_first true = refl
    by_first false = refl
sooner_regroup (Some a) (Some b) (Some c) = by_tests (nat_lt b.1 a.1) refl (nat_lt c.1 b.1) refl
  where
    by_tests : (t : Bool) → nat_lt b.1 a.1 ≡ t → (u : Bool) → nat_lt c.1 b.1 ≡ u
        → sooner (let r : Option (ℕ × ℕ) = if t then Some b else Some a in r) (Some c) ≡ sooner (Some a) (let r : Option (ℕ × ℕ) = if u then Some c else Some b in r)
    by_tests true e true f =
        let less : nat_lt c.1 a.1 ≡ true = grind (arith, nat_tests) in
        rw (f, less) refl
    by_tests true e false f = rw (e, f) refl
    by_tests false e true f = refl
    by_tests false e false f =
        let less : nat_lt c.1 a.1 ≡ false = grind (arith, nat_tests) in
        rw (e, less) refl

least_appended : (place : ℕ) (ns ms : List Kind) → first_least place (ns ++ ms) ≡ sooner (first_least place ns) (first_least (place + length ns) ms)
least_appended place [] ms = let e : place ≡ place + 0 = omega arith in ap (λ (p : ℕ). first_least p ms) e
least_appended place (n ∷ ns) ms =
    let e : suc place + length ns ≡ place + suc (length ns) = omega arith in
    ap (sooner (placed place (class_at n))) (least_appended (suc place) ns ms ∙ ap (λ (p : ℕ). sooner (first_least (suc place) ns) (first_least p ms)) e)
    ∙ sym (sooner_regroup (placed place (class_at n)) (first_least (suc place) ns) (first_least (place + suc (length ns)) ms))

abbrev further : ℕ → Option (ℕ × ℕ) → Option (ℕ × ℕ)
further place None = None
further place (Some found) = Some (place + found.0, found.1)

further_sooner : (place : ℕ) (a b : Option (ℕ × ℕ)) → further place (sooner a b) ≡ sooner (further place a) (further place b)
further_sooner place None b = refl
further_sooner place (Some a) None = refl
further_sooner place (Some a) (Some b) = by_test (nat_lt b.1 a.1)
  where
    by_test : (t : Bool) → further place (let r : Option (ℕ × ℕ) = if t then Some b else Some a in r) ≡ (if t then Some (place + b.0, b.1) else Some (place + a.0, a.1))
    by_test true = refl
    by_test false = refl

further_placed : (place here : ℕ) (class : Option ℕ) → placed (place + here) class ≡ further place (placed here class)
further_placed place here None = refl
further_placed place here (Some k) = refl

least_further : (place here : ℕ) (ns : List Kind) → first_least (place + here) ns ≡ further place (first_least here ns)
least_further place here [] = refl
least_further place here (n ∷ ns) =
    let e : suc (place + here) ≡ place + suc here = omega arith in
    ap₂ sooner (further_placed place here (class_at n)) (ap (λ (p : ℕ). first_least p ns) e ∙ least_further place (suc here) ns)
    ∙ sym (further_sooner place (placed here (class_at n)) (first_least (suc here) ns))

abbrev Within : ℕ → Option (ℕ × ℕ) → Type 0
Within bound None = Unit {0}
Within bound (Some found) = found.0 < bound

sooner_within : (bound : ℕ) (a b : Option (ℕ × ℕ)) → Within bound a → Within bound b → Within bound (sooner a b)
sooner_within bound None b h i = i
sooner_within bound (Some a) None h i = h
sooner_within bound (Some a) (Some b) h i = by_test (nat_lt b.1 a.1)
  where
    by_test : (t : Bool) → Within bound (if t then Some b else Some a)
    by_test true = i
    by_test false = h

placed_within : (bound place : ℕ) (class : Option ℕ) → place < bound → Within bound (placed place class)
placed_within bound place None h = tt
placed_within bound place (Some k) h = h

least_within : (place : ℕ) (ns : List Kind) → Within (place + length ns) (first_least place ns)
least_within place [] = tt
least_within place (n ∷ ns) =
    let e : suc place + length ns ≡ place + suc (length ns) = omega arith in
    let first : place < place + suc (length ns) = omega arith in
    sooner_within (place + suc (length ns)) (placed place (class_at n)) (first_least (suc place) ns) (placed_within (place + suc (length ns)) place (class_at n) first)
    (subst (λ (bound : ℕ). Within bound (first_least (suc place) ns)) e (least_within (suc place) ns))

-- ---- growth in a list that is joined

front_appended : (context : Context) (place : ℕ) (ns ms : List Kind) → place < length ns → grown_at context place (ns ++ ms) ≡ grown_at context place ns ++ ms
front_appended context place [] ms h = absurd (omega (arith, h))
front_appended context zero (n ∷ ns) ms h = sym (append_assoc (in_place_of context n) ns ms)
front_appended context (suc place) (n ∷ ns) ms h = ap (λ (ks : List Kind). n ∷ ks) (front_appended context place ns ms (omega (arith, h)))

behind_appended : (context : Context) (place : ℕ) (ns ms : List Kind) → grown_at context (length ns + place) (ns ++ ms) ≡ ns ++ grown_at context place ms
behind_appended context place [] ms = let e : 0 + place ≡ place = omega arith in ap (λ (p : ℕ). grown_at context p ms) e
behind_appended context place (n ∷ ns) ms =
    let e : suc (length ns) + place ≡ suc (length ns + place) = omega arith in
    ap (λ (p : ℕ). grown_at context p (n ∷ (ns ++ ms))) e ∙ ap (λ (ks : List Kind). n ∷ ks) (behind_appended context place ns ms)

-- a list of blocks is parted at a block
pub block_parted : (block : ℕ) (bs : List (List Kind)) → with_block block (block_at block bs) bs ≡ joined bs
block_parted zero [] = refl
block_parted zero (b ∷ bs) = refl
block_parted (suc block) [] = refl
block_parted (suc block) (b ∷ bs) =
    append_assoc b (joined (take block bs)) (block_at block bs ++ joined (drop (suc block) bs)) ∙ ap (λ (ns : List Kind). b ++ ns) (block_parted block bs)

pub block_grows : (context : Context) (block place : ℕ) (bs : List (List Kind)) → place < length (block_at block bs)
    → grown_at context (length (joined (take block bs)) + place) (joined bs) ≡ grown_in_block context block place bs
block_grows context block place bs h =
    ap (grown_at context (length (joined (take block bs)) + place)) (sym (block_parted block bs))
    ∙ behind_appended context place (joined (take block bs)) (block_at block bs ++ joined (drop (suc block) bs))
    ∙ ap (λ (ns : List Kind). joined (take block bs) ++ ns) (front_appended context place (block_at block bs) (joined (drop (suc block) bs)) h)

-- ---- the first open leaf of the least class

pub record IsSpot (block place : ℕ) (bs : List (List Kind)) (found : ℕ × ℕ) (at : ℕ × ℕ × ℕ) : Type 0 where
  pub skipped : ℕ
  pub block_is : at.0 ≡ block + skipped
  pub place_is : found.0 ≡ place + (length (joined (take skipped bs)) + at.1)
  pub within : at.1 < length (block_at skipped bs)
  pub class_is : found.1 ≡ at.2

abbrev pub Same : ℕ → ℕ → List (List Kind) → Option (ℕ × ℕ) → Option (ℕ × ℕ × ℕ) → Type 0
Same block place bs None None = Unit {0}
Same block place bs None (Some at) = ⊥
Same block place bs (Some found) None = ⊥
Same block place bs (Some found) (Some at) = IsSpot block place bs found at

first_block : (block place : ℕ) (b : List Kind) (bs : List (List Kind)) (found : ℕ × ℕ) → found.0 < length b
    → IsSpot block place (b ∷ bs) (place + found.0, found.1) (block, found.0, found.1)
first_block block place b bs found h = record {
  skipped = 0;
  block_is = omega arith;
  place_is = omega arith;
  within = h;
  class_is = refl;
}

length_appended : (ns ms : List Kind) → length (ns ++ ms) ≡ length ns + length ms
length_appended [] ms = omega arith
length_appended (n ∷ ns) ms = omega (arith, length_appended ns ms)

later_block : (block place : ℕ) (b : List Kind) (bs : List (List Kind)) (found : ℕ × ℕ) (at : ℕ × ℕ × ℕ) → IsSpot (suc block) (place + length b) bs found at → IsSpot block place (b ∷ bs) found at
later_block block place b bs found at h = record {
  skipped = suc h.skipped;
  block_is = omega (arith, h.block_is);
  place_is = omega (arith, h.place_is, length_appended b (joined (take h.skipped bs)));
  within = h.within;
  class_is = h.class_is;
}

both_same : (block place : ℕ) (b : List Kind) (bs : List (List Kind)) (own : Option (ℕ × ℕ)) → Within (length b) own → (later : Option (ℕ × ℕ)) (spots : Option (ℕ × ℕ × ℕ))
    → Same (suc block) (place + length b) bs later spots → Same block place (b ∷ bs) (sooner (further place own) later) (sooner_spot (spot block own) spots)
both_same block place b bs None h None None s = tt
both_same block place b bs None h None (Some at) s = absurd s
both_same block place b bs None h (Some found) None s = absurd s
both_same block place b bs None h (Some found) (Some at) s = later_block block place b bs found at s
both_same block place b bs (Some own) h None None s = first_block block place b bs own h
both_same block place b bs (Some own) h None (Some at) s = absurd s
both_same block place b bs (Some own) h (Some found) None s = absurd s
both_same block place b bs (Some own) h (Some found) (Some at) s =
    let tests : nat_lt at.2 own.1 ≡ nat_lt found.1 own.1 = ap (λ (k : ℕ). nat_lt k own.1) (sym s.class_is) in
    subst (λ (t : Bool). Same block place (b ∷ bs) (if t then Some found else Some (place + own.0, own.1)) (sooner_spot (spot block (Some own)) (Some at))) tests (by_test (nat_lt at.2 own.1))
  where
    by_test : (t : Bool) → Same block place (b ∷ bs) (if t then Some found else Some (place + own.0, own.1)) (if t then Some at else Some (block, own.0, own.1))
    by_test true = later_block block place b bs found at s
    by_test false = first_block block place b bs own h

pub spot_is : (block place : ℕ) (bs : List (List Kind)) → Same block place bs (first_least place (joined bs)) (first_spot block bs)
spot_is block place [] = tt
spot_is block place (b ∷ bs) =
    let e : place + 0 ≡ place = omega arith in
    let own : first_least place b ≡ further place (first_least 0 b) = ap (λ (p : ℕ). first_least p b) (sym e) ∙ least_further place 0 b in
    let all : first_least place (b ++ joined bs) ≡ sooner (further place (first_least 0 b)) (first_least (place + length b) (joined bs)) =
    least_appended place b (joined bs) ∙ ap (λ (o : Option (ℕ × ℕ)). sooner o (first_least (place + length b) (joined bs))) own in
    let bound : 0 + length b ≡ length b = omega arith in
    let inside : Within (length b) (first_least 0 b) = subst (λ (n : ℕ). Within n (first_least 0 b)) bound (least_within 0 b) in
    subst (λ (o : Option (ℕ × ℕ)). Same block place (b ∷ bs) o (first_spot block (b ∷ bs))) (sym all)
    (both_same block place b bs (first_least 0 b) inside (first_least (place + length b) (joined bs)) (first_spot (suc block) bs) (spot_is (suc block) (place + length b) bs))
