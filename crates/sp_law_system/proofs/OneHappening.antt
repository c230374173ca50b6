-- Two happenings at one position of a log can be made one.
use Rattle.std.proofs.Common.{◌≡◌, ◌≤◌, ℕ, List, [], ◌∷◌, length, Option, Some, None, option_map, refl, ap, subst, arith}
use Rattle.sp_spec.specs.Lists.{AtPosition}
use Rattle.sp_spec.specs.Term.{Names, Variable, Term, valued}
use Rattle.sp_spec.specs.Rule.{facts_at}
use Rattle.sp_spec.specs.Unifier.{Pair, MakesSame}
use Rattle.sp_spec.specs.Log.{Log, Entry, How, step, send, learn}
use Rattle.sp_spec_system.specs.System.{Happening, rule_step, sending, learning}
use Rattle.sp_spec_system.specs.Solutions.{Valuation, IsWayOf, HappensAt}
use Rattle.sp_spec_system.specs.Numbered.{InHappening}
use Rattle.sp_spec_system.specs.Equating.{Merging, merging, ways_merging, with_pair, of_pairs}
use Rattle.sp_spec.proofs.Lists.{position_one}
use Rattle.sp_law_system.proofs.Merging.{Paired, step_pairs, steps_paired, OptionUnder, steps_under}
use Rattle.sp_law_system.proofs.WaysMerging.{MakesOne, WaysMerged, ways_merged, MergingUnder, ways_under}
use Rattle.sp_law_system.proofs.LearntBy.{IsWayAt}
use Rattle.sp_law_system.proofs.Solutions.{Under, TimeUnder}

-- what makes them one is there, its pairs have one value each, its times, of which there is at most one pair, are one, and the entry learns in its way
pub record AreMerged (log : Log) (p : ℕ) (v : Valuation) (o : Option Merging) : Type 0 where
  pub by : Merging
  pub there : o ≡ Some by
  pub same : MakesSame v.terms by.pairs
  pub times : MakesOne v by.times
  pub short : length by.times ≤ 1
  pub way : IsWayAt log p v by.way

one_entry : (log : Log) (p q : ℕ) (d e : Entry) → p ≡ q → AtPosition log p d → AtPosition log q e → d ≡ e
one_entry log p q d e same h k = position_one log q d e (subst (λ (x : ℕ). AtPosition log x d) same h) k

-- where nothing is learnt
pairs_merged : {N : Names} → (log : Log) (p : ℕ) (v : Valuation) (n : ℕ) (o : Option (List Pair)) → Paired N v.terms n o
    → AreMerged log p v (option_map of_pairs o)
pairs_merged log p v n o r =
    record { by = of_pairs r.pairs; there = ap (option_map of_pairs) r.there; same = r.same; times = tt; short = omega arith; way = λ m how a. tt }

-- where something is, in ways of its entry
learnt_merged : (log : Log) (p : ℕ) (v : Valuation) (m u : Term Variable) (how : How) (o : Option Merging) → AtPosition log p (learn (valued v.terms m) how)
    → valued v.terms m ≡ valued v.terms u
    → WaysMerged v how o → AreMerged log p v (option_map (with_pair (m, u)) o)
learnt_merged log p v m u how o here message w = record {
  by = with_pair (m, u) w.by;
  there = ap (option_map (with_pair (m, u))) w.there;
  same = (message, w.same);
  times = w.times;
  short = w.short;
  way = λ t x a.
      let entry : learn t x ≡ learn (valued v.terms m) how = position_one log p (learn t x) (learn (valued v.terms m) how) a here in
      let one : how ≡ x = cc in
      subst (IsWayOf v w.by.way) one w.way;
}

-- What happens at one position is of one kind, and has the same facts or the same message, learnt in one way.
pub one_happening : (N : Names) → (log : Log) (v : Valuation) (n p q : ℕ) (a b : Happening) → p ≡ q → HappensAt log p v a → HappensAt log q v b
    → InHappening N (Under n) (TimeUnder n) a → InHappening N (Under n) (TimeUnder n) b → AreMerged log p v (merging a b)
one_happening N log v n p q (rule_step r f) (rule_step u g) same h k i j =
    let entry = one_entry log p q (step r (facts_at v.terms f) h.0) (step u (facts_at v.terms g) k.0) same h.1 k.1 in
    let named : r ≡ u = cc in
    let facts : facts_at v.terms f ≡ facts_at v.terms g = cc in
    pairs_merged {N = N} log p v n (step_pairs r f u g) (steps_paired v.terms n r u f g i j named facts)
one_happening N log v n p q (sending m) (sending u) same h k i j =
    let entry = one_entry log p q (send (valued v.terms m)) (send (valued v.terms u)) same h k in
    let message : valued v.terms m ≡ valued v.terms u = cc in
    record { by = of_pairs ((m, u) ∷ []); there = refl; same = (message, tt); times = tt; short = omega arith; way = λ t x a. tt }
one_happening N log v n p q (learning m way) (learning u other) same h k i j =
    let entry = one_entry log p q (learn (valued v.terms m) h.0) (learn (valued v.terms u) k.0) same h.1 k.1 in
    let message : valued v.terms m ≡ valued v.terms u = cc in
    let how : k.0 ≡ h.0 = cc in
    learnt_merged log p v m u h.0 (ways_merging way other) h.1 message (ways_merged v h.0 way other h.2 (subst (IsWayOf v other) how k.2))
one_happening N log v n p q (rule_step r f) (sending u) same h k i j =
    absurd (let entry = one_entry log p q (step r (facts_at v.terms f) h.0) (send (valued v.terms u)) same h.1 k in cc)
one_happening N log v n p q (rule_step r f) (learning u other) same h k i j =
    absurd (let entry = one_entry log p q (step r (facts_at v.terms f) h.0) (learn (valued v.terms u) k.0) same h.1 k.1 in cc)
one_happening N log v n p q (sending m) (rule_step u g) same h k i j =
    absurd (let entry = one_entry log p q (send (valued v.terms m)) (step u (facts_at v.terms g) k.0) same h k.1 in cc)
one_happening N log v n p q (sending m) (learning u other) same h k i j =
    absurd (let entry = one_entry log p q (send (valued v.terms m)) (learn (valued v.terms u) k.0) same h k.1 in cc)
one_happening N log v n p q (learning m way) (rule_step u g) same h k i j =
    absurd (let entry = one_entry log p q (learn (valued v.terms m) h.0) (step u (facts_at v.terms g) k.0) same h.1 k.1 in cc)
one_happening N log v n p q (learning m way) (sending u) same h k i j =
    absurd (let entry = one_entry log p q (learn (valued v.terms m) h.0) (send (valued v.terms u)) same h.1 k in cc)

-- what makes them one has only such numbers
module _ (N : Names) (n : ℕ) where
  pairs_under : (o : Option (List Pair)) → OptionUnder N n o → MergingUnder N n (option_map of_pairs o)
  pairs_under None h = tt
  pairs_under (Some pairs) h = record { pairs = h; times = tt; way = tt }

  learnt_under : (p : Pair) → OptionUnder N n (Some (p ∷ [])) → (o : Option Merging) → MergingUnder N n o → MergingUnder N n (option_map (with_pair p) o)
  learnt_under p h None k = tt
  learnt_under p h (Some m) k = record { pairs = (h.0, k.pairs); times = k.times; way = k.way }

  pub merging_under : (a b : Happening) → InHappening N (Under n) (TimeUnder n) a → InHappening N (Under n) (TimeUnder n) b → MergingUnder N n (merging a b)
  merging_under (rule_step r f) (rule_step q g) a b = pairs_under (step_pairs r f q g) (steps_under N n r q f g a b)
  merging_under (sending m) (sending u) a b = record { pairs = ((a, b), tt); times = tt; way = tt }
  merging_under (learning m way) (learning u other) a b = learnt_under (m, u) ((a.0, b.0), tt) (ways_merging way other) (ways_under N n way other a.1 b.1)
  merging_under (rule_step r f) (sending u) a b = tt
  merging_under (rule_step r f) (learning u other) a b = tt
  merging_under (sending m) (rule_step q g) a b = tt
  merging_under (sending m) (learning u other) a b = tt
  merging_under (learning m way) (rule_step q g) a b = tt
  merging_under (learning m way) (sending u) a b = tt
