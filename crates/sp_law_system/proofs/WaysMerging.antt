-- Two ways in which one entry of a log learns its message can be made one, and in the way that stays the entry learns it too.
use Rattle.std.proofs.Common.{◌≡◌, ◌≤◌, ◌<◌, ℕ, Bool, true, false, not, ◌&&◌, if◌then◌else◌, nat_lt, nat_eq, List, [], ◌∷◌, ◌++◌, map, length, Option, Some, None, refl, sym, ap, ◌∙◌, subst, arith, le_refl}
use Rattle.std.proofs.lemmas.Bool.{and_from, eq-eqb, ltb-true}
use Rattle.std.proofs.lemmas.List.{append-nil, length-append}
use Rattle.sp_spec.specs.Lists.{Every}
use Rattle.sp_spec.specs.Term.{Names, Variable, Term, Ground, valued, MadeOf}
use Rattle.sp_spec.specs.Unifier.{MakesSame}
use Rattle.sp_spec.specs.Log.{How, by_chain}
use Rattle.sp_spec_system.specs.System.{Way, anyhow, public_name, own_name, constructed, chain_begun, chain_done}
use Rattle.sp_spec_system.specs.Solutions.{Valuation, IsWayOf}
use Rattle.sp_spec_system.specs.Numbered.{InWay}
use Rattle.sp_spec_system.specs.Equating.{Merging, common_pairs, longer, chains_merging, same_way, ways_merging}
use Rattle.sp_spec.proofs.Lists.{length_map}
use Rattle.sp_law_system.specs.Laws.{PairsUnder}
use Rattle.sp_law_system.proofs.Solutions.{Under, TimeUnder}
use Rattle.sp_law_system.proofs.With.{BothUnder}

-- the two times of each pair are one
abbrev pub MakesOne : Valuation → List (ℕ × ℕ) → Type 0
MakesOne v times = Every (λ (p : ℕ × ℕ). v.times p.0 ≡ v.times p.1) times

-- what makes them one is there, its pairs have one value each, its times, of which there is at most one pair, are one, and its way is that of the entry
pub record WaysMerged (v : Valuation) (how : How) (o : Option Merging) : Type 0 where
  pub by : Merging
  pub there : o ≡ Some by
  pub same : MakesSame v.terms by.pairs
  pub times : MakesOne v by.times
  pub short : length by.times ≤ 1
  pub way : IsWayOf v by.way how

module _ (v : Valuation) where
  -- what begins one list twice is the same as far as both reach
  common_same : (ts us : List (Term Variable)) (xs ys : List Ground) → map (valued v.terms) ts ++ xs ≡ map (valued v.terms) us ++ ys
      → MakesSame v.terms (common_pairs ts us)
  common_same [] us xs ys e = tt
  common_same (t ∷ ts) [] xs ys e = tt
  common_same (t ∷ ts) (u ∷ us) xs ys e =
      let head : valued v.terms t ≡ valued v.terms u = cc in
      let tail : map (valued v.terms) ts ++ xs ≡ map (valued v.terms) us ++ ys = cc in
      (head, common_same ts us xs ys tail)

  -- a chain that reaches the whole of one is no shorter than what that begins with
  begun_shorter : (ts us : List (Term Variable)) (xs : List Ground) → map (valued v.terms) ts ++ xs ≡ map (valued v.terms) us
      → not (nat_lt (length us) (length ts)) ≡ true
  begun_shorter ts us xs e = at (nat_lt (length us) (length ts)) refl
    where
      at : (b : Bool) → nat_lt (length us) (length ts) ≡ b → not b ≡ true
      at true k =
          let l = ltb-true (length us) (length ts) k in
          let a = length-append (map (valued v.terms) ts) xs in
          let b : length (map (valued v.terms) ts ++ xs) ≡ length (map (valued v.terms) us) = ap (λ (ys : List Ground). length ys) e in
          let c = length_map (valued v.terms) ts in
          let d = length_map (valued v.terms) us in
          absurd (omega (arith, l, a, b, c, d))
      at false k = refl

  same_length : (ts us : List (Term Variable)) → map (valued v.terms) ts ≡ map (valued v.terms) us → length ts ≡ length us
  same_length ts us e = sym (length_map (valued v.terms) ts) ∙ ap (λ (ys : List Ground). length ys) e ∙ length_map (valued v.terms) us

  -- the two entries of chains are one
  record OneChain (i k : ℕ) (xs : List Ground) (j l : ℕ) (ys : List Ground) : Type 0 where
    times : v.times i ≡ v.times j
    places : nat_eq k l ≡ true
    place : k ≡ l
    chains : xs ≡ ys

  one_chain : (how : How) (i k : ℕ) (xs : List Ground) (j l : ℕ) (ys : List Ground) → how ≡ by_chain (v.times i) k xs → how ≡ by_chain (v.times j) l ys
      → OneChain i k xs j l ys
  one_chain how i k xs j l ys h g =
      let e : by_chain (v.times i) k xs ≡ by_chain (v.times j) l ys = sym h ∙ g in
      let times : v.times i ≡ v.times j = cc in
      let place : k ≡ l = cc in
      let chains : xs ≡ ys = cc in
      record { times = times; places = eq-eqb k l place; place = place; chains = chains }

  module _ (how : How) where
    one_way : (way : Way) → IsWayOf v way how → WaysMerged v how (same_way way)
    one_way way h = record { by = record { pairs = []; times = []; way = way }; there = refl; same = tt; times = tt; short = omega arith; way = h }

    chains_merged : (b : Bool) → b ≡ true → (i j : ℕ) (ts us : List (Term Variable)) (way : Way) → MakesSame v.terms (common_pairs ts us)
        → v.times i ≡ v.times j → IsWayOf v way how
        → WaysMerged v how (chains_merging b (i, j) ts us way)
    chains_merged true e i j ts us way same time h =
        let by : Merging = record { pairs = common_pairs ts us; times = (i, j) ∷ []; way = way } in
        record { by = by; there = refl; same = same; times = (time, tt); short = le_refl 1; way = h }
    chains_merged false e i j ts us way same time h = absurd cc

    begun_both : (i k : ℕ) (ts : List (Term Variable)) (j l : ℕ) (us : List (Term Variable)) → IsWayOf v (chain_begun i k ts) how
        → IsWayOf v (chain_begun j l us) how
        → WaysMerged v how (ways_merging (chain_begun i k ts) (chain_begun j l us))
    begun_both i k ts j l us h g =
        let one = one_chain how i k _ j l _ h.1 g.1 in
        chains_merged (nat_eq k l) one.places i j ts us (chain_begun i k (longer ts us)) (common_same ts us h.0 g.0 one.chains) one.times
        (at (nat_lt (length ts) (length us)) one)
      where
        at : (b : Bool) → OneChain i k (map (valued v.terms) ts ++ h.0) j l (map (valued v.terms) us ++ g.0)
            → IsWayOf v (chain_begun i k (if b then us else ts)) how
        at true one = (
          g.0,
          subst (λ (m : ℕ). how ≡ by_chain (v.times i) m (map (valued v.terms) us ++ g.0)) (sym one.place)
              (subst (λ (q : ℕ). how ≡ by_chain q l (map (valued v.terms) us ++ g.0)) (sym one.times) g.1),
          g.2,
        )
        at false one = h

    begun_done : (i k : ℕ) (ts : List (Term Variable)) (j l : ℕ) (us : List (Term Variable)) → IsWayOf v (chain_begun i k ts) how
        → IsWayOf v (chain_done j l us) how
        → WaysMerged v how (ways_merging (chain_begun i k ts) (chain_done j l us))
    begun_done i k ts j l us h g =
        let one = one_chain how i k _ j l _ h.1 g in
        chains_merged (nat_eq k l && not (nat_lt (length us) (length ts)))
        (and_from (nat_eq k l) (not (nat_lt (length us) (length ts))) one.places (begun_shorter ts us h.0 one.chains))
        i j ts us (chain_done j l us) (common_same ts us h.0 [] (one.chains ∙ sym (append-nil (map (valued v.terms) us)))) one.times g

    done_begun : (i k : ℕ) (ts : List (Term Variable)) (j l : ℕ) (us : List (Term Variable)) → IsWayOf v (chain_done i k ts) how
        → IsWayOf v (chain_begun j l us) how
        → WaysMerged v how (ways_merging (chain_done i k ts) (chain_begun j l us))
    done_begun i k ts j l us h g =
        let one = one_chain how i k _ j l _ h g.1 in
        chains_merged (nat_eq k l && not (nat_lt (length ts) (length us)))
        (and_from (nat_eq k l) (not (nat_lt (length ts) (length us))) one.places (begun_shorter us ts g.0 (sym one.chains)))
        i j ts us (chain_done i k ts) (common_same ts us [] g.0 (append-nil (map (valued v.terms) ts) ∙ one.chains)) one.times h

    done_both : (i k : ℕ) (ts : List (Term Variable)) (j l : ℕ) (us : List (Term Variable)) → IsWayOf v (chain_done i k ts) how
        → IsWayOf v (chain_done j l us) how
        → WaysMerged v how (ways_merging (chain_done i k ts) (chain_done j l us))
    done_both i k ts j l us h g =
        let one = one_chain how i k _ j l _ h g in
        chains_merged (nat_eq k l && nat_eq (length ts) (length us))
        (and_from (nat_eq k l) (nat_eq (length ts) (length us)) one.places (eq-eqb (length ts) (length us) (same_length ts us one.chains)))
        i j ts us (chain_done i k ts) (common_same ts us [] [] (ap (λ (xs : List Ground). xs ++ []) one.chains)) one.times h

    -- ways of one entry are one
    pub ways_merged : (way other : Way) → IsWayOf v way how → IsWayOf v other how → WaysMerged v how (ways_merging way other)
    ways_merged anyhow other h g = one_way other g
    ways_merged public_name anyhow h g = one_way public_name h
    ways_merged own_name anyhow h g = one_way own_name h
    ways_merged constructed anyhow h g = one_way constructed h
    ways_merged (chain_begun i k ts) anyhow h g = one_way (chain_begun i k ts) h
    ways_merged (chain_done i k ts) anyhow h g = one_way (chain_done i k ts) h
    ways_merged public_name public_name h g = one_way public_name h
    ways_merged own_name own_name h g = one_way own_name h
    ways_merged constructed constructed h g = one_way constructed h
    ways_merged (chain_begun i k ts) (chain_begun j l us) h g = begun_both i k ts j l us h g
    ways_merged (chain_begun i k ts) (chain_done j l us) h g = begun_done i k ts j l us h g
    ways_merged (chain_done i k ts) (chain_begun j l us) h g = done_begun i k ts j l us h g
    ways_merged (chain_done i k ts) (chain_done j l us) h g = done_both i k ts j l us h g
    ways_merged public_name own_name h g = absurd cc
    ways_merged public_name constructed h g = absurd cc
    ways_merged public_name (chain_begun j l us) h g = absurd (let e = g.1 in cc)
    ways_merged public_name (chain_done j l us) h g = absurd cc
    ways_merged own_name public_name h g = absurd cc
    ways_merged own_name constructed h g = absurd cc
    ways_merged own_name (chain_begun j l us) h g = absurd (let e = g.1 in cc)
    ways_merged own_name (chain_done j l us) h g = absurd cc
    ways_merged constructed public_name h g = absurd cc
    ways_merged constructed own_name h g = absurd cc
    ways_merged constructed (chain_begun j l us) h g = absurd (let e = g.1 in cc)
    ways_merged constructed (chain_done j l us) h g = absurd cc
    ways_merged (chain_begun i k ts) public_name h g = absurd (let e = h.1 in cc)
    ways_merged (chain_begun i k ts) own_name h g = absurd (let e = h.1 in cc)
    ways_merged (chain_begun i k ts) constructed h g = absurd (let e = h.1 in cc)
    ways_merged (chain_done i k ts) public_name h g = absurd cc
    ways_merged (chain_done i k ts) own_name h g = absurd cc
    ways_merged (chain_done i k ts) constructed h g = absurd cc

-- what makes two happenings one has only such numbers
pub record IsMergingUnder (N : Names) (n : ℕ) (m : Merging) : Type 0 where
  pub pairs : PairsUnder N n m.pairs
  pub times : Every (BothUnder n) m.times
  pub way : InWay N (Under n) (TimeUnder n) m.way

abbrev pub MergingUnder : Names → ℕ → Option Merging → Type 0
MergingUnder N n None = Unit {0}
MergingUnder N n (Some m) = IsMergingUnder N n m

module _ (N : Names) (n : ℕ) where
  common_under : (ts us : List (Term Variable)) → Every (MadeOf N (Under n)) ts → Every (MadeOf N (Under n)) us → PairsUnder N n (common_pairs ts us)
  common_under [] us h g = tt
  common_under (t ∷ ts) [] h g = tt
  common_under (t ∷ ts) (u ∷ us) h g = ((h.0, g.0), common_under ts us h.1 g.1)

  chains_under : (b : Bool) (i j : ℕ) (ts us : List (Term Variable)) (way : Way) → i < n → j < n → Every (MadeOf N (Under n)) ts
      → Every (MadeOf N (Under n)) us → InWay N (Under n) (TimeUnder n) way
      → MergingUnder N n (chains_merging b (i, j) ts us way)
  chains_under true i j ts us way a b h g w = record { pairs = common_under ts us h g; times = ((a, b), tt); way = w }
  chains_under false i j ts us way a b h g w = tt

  longer_under : (ts us : List (Term Variable)) → Every (MadeOf N (Under n)) ts → Every (MadeOf N (Under n)) us → Every (MadeOf N (Under n)) (longer ts us)
  longer_under ts us h g = at (nat_lt (length ts) (length us))
    where
      at : (b : Bool) → Every (MadeOf N (Under n)) (if b then us else ts)
      at true = g
      at false = h

  one_under : (way : Way) → InWay N (Under n) (TimeUnder n) way → MergingUnder N n (same_way way)
  one_under way h = record { pairs = tt; times = tt; way = h }

  pub ways_under : (way other : Way) → InWay N (Under n) (TimeUnder n) way → InWay N (Under n) (TimeUnder n) other → MergingUnder N n (ways_merging way other)
  ways_under anyhow other h g = one_under other g
  ways_under public_name anyhow h g = one_under public_name h
  ways_under own_name anyhow h g = one_under own_name h
  ways_under constructed anyhow h g = one_under constructed h
  ways_under (chain_begun i k ts) anyhow h g = one_under (chain_begun i k ts) h
  ways_under (chain_done i k ts) anyhow h g = one_under (chain_done i k ts) h
  ways_under public_name public_name h g = one_under public_name h
  ways_under own_name own_name h g = one_under own_name h
  ways_under constructed constructed h g = one_under constructed h
  ways_under (chain_begun i k ts) (chain_begun j l us) h g =
      chains_under (nat_eq k l) i j ts us (chain_begun i k (longer ts us)) h.0 g.0 h.1 g.1 (h.0, longer_under ts us h.1 g.1)
  ways_under (chain_begun i k ts) (chain_done j l us) h g =
      chains_under (nat_eq k l && not (nat_lt (length us) (length ts))) i j ts us (chain_done j l us) h.0 g.0 h.1 g.1 g
  ways_under (chain_done i k ts) (chain_begun j l us) h g =
      chains_under (nat_eq k l && not (nat_lt (length ts) (length us))) i j ts us (chain_done i k ts) h.0 g.0 h.1 g.1 h
  ways_under (chain_done i k ts) (chain_done j l us) h g =
      chains_under (nat_eq k l && nat_eq (length ts) (length us)) i j ts us (chain_done i k ts) h.0 g.0 h.1 g.1 h
  ways_under way other h g = tt
