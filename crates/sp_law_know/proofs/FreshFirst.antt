-- Fresh comes first: whoever has a fresh name in a premise other than an Fr, or learns a message with it, is later than the event that uses the name's Fr.
use Rattle.std.proofs.Common.{◌≡◌, ◌⊎◌, ◌≤◌, ◌<◌, ◌==◌, ℕ, zero, suc, Bool, true, false, ◌&&◌, not, if◌then◌else◌, List, [], ◌∷◌, ◌++◌, map, length, Some, None, refl, sym, ap, ◌∙◌, subst, inl, inr, ⊎_elim, le_refl}
use Rattle.std.proofs.lemmas.Bool.{or_cases, and_parts, not-true, eq-eqb}
use Rattle.sp_spec.specs.Lists.{Member, Every, AtPlace, AtPosition}
use Rattle.sp_spec.specs.Term.{Names, Sort, Fresh, Variable, Term, var, constant, name, app, Terms, none, more, Ground, Values, valued, valued_all}
use Rattle.sp_spec.specs.Signature.{HasSort, RespectsSorts}
use Rattle.sp_spec.specs.Rule.{Fact, IsFreshVariable, fact_at, facts_at, fr}
use Rattle.sp_spec.specs.Theory.{Theory}
use Rattle.sp_spec.specs.Same.{alike, is_part, is_part_of_one}
use Rattle.sp_spec.specs.Log.{Log, How, step, send, learn, rule_instance, way_of_learning, IsLog, is_fr, fresh_of, fresh_uses}
use Rattle.sp_spec.specs.Log as logs
use Rattle.sp_spec.proofs.Lists.{every_append, every_from, every_member, every_weaken, member_mapped, position_below, position_one, place_member}
use Rattle.sp_spec.proofs.Logs.{entry_behind}
use Rattle.sp_spec.proofs.Options.{mapped}
use Rattle.sp_spec.proofs.Same.{alike_same, same_by_decides, same_variable_decides}
use Rattle.sp_spec.proofs.Sorts.{is_name}
use Rattle.sp_law_equal.specs.Parts.{IsPart, IsPartOfOne}
use Rattle.sp_law_equal.specs.RightTheory.{HasNormalInstances, TakesFreshNames, BindsActions, BindsConclusions}
use Rattle.sp_law_equal.proofs.Parts.{part_itself}
use Rattle.sp_law_log.specs.Laws.{IsUsedBefore, HasOrigins}
use Rattle.sp_law_log.proofs.Instances.{normal_step}
use Rattle.sp_law_log.proofs.Used.{has_origins}
use Rattle.sp_spec_system.specs.System.{Way, anyhow, public_name, own_name, constructed, chain_begun, chain_done, Happening, rule_step, sending, learning, happening_premises, Event, System, with_pairs}
use Rattle.sp_spec_system.specs.Solutions.{Valuation, HappensAt, HappensIn, IsBefore, Solves}
use Rattle.sp_spec_system.specs.Numbered.{InEvent, IsNumbered}
use Rattle.sp_spec_system.specs.Covering.{Covers}
use Rattle.sp_spec_system.specs.Order.{is_before}
use Rattle.sp_spec_system.specs.Picked.{if_any, first_some}
use Rattle.sp_law_system.specs.Laws.{UnifierIsRight}
use Rattle.sp_law_system.proofs.Solutions.{Under, TimeUnder}
use Rattle.sp_law_system.proofs.With.{BothUnder, order_solves, order_numbered}
use Rattle.sp_law_formula.proofs.OneCase.{covers_by_itself}
use Rattle.sp_law_formula.proofs.Matches.{some_picked}
use Rattle.sp_spec_graph.specs.Fresh.{first_term, fresh_terms, happening_fresh}
use Rattle.sp_spec_know.specs.FreshFirst.{has_taken, has_learnt, comes_later, is_missing, missing_pairs, missing_behind, fresh_first}
use Rattle.sp_spec_know.specs.LearnOnce.{learn_same, learn_once}
use Rattle.sp_law_graph.proofs.FreshOnce.{one_position, fresh_values, fresh_member, happening_uses}
use Rattle.sp_law_know.proofs.LearnOnce.{each_learns_another}
use Rattle.sp_law_graph.proofs.Sources.{premise_event}
use Rattle.sp_law_graph.proofs.Two.{none_two}

-- of each event that comes later than the time for the term, by what is missing
missing_each : (P : ℕ × ℕ → Type 0) (order : List (ℕ × ℕ)) (i : ℕ) (t : Term Variable) (es : List Event)
    → Every (λ (d : Event). comes_later i t d ≡ true → P (i, d.time)) es → Every P (missing_pairs order i t es)
missing_each P order i t [] h = tt
missing_each P order i t (d ∷ es) h = at (is_missing order i t d) refl (missing_each P order i t es h.1)
  where
    at : (b : Bool) → is_missing order i t d ≡ b → Every P (missing_pairs order i t es)
        → Every P (if b then (i, d.time) ∷ missing_pairs order i t es else missing_pairs order i t es)
    at true e rest = (h.0 (and_parts (comes_later i t d) (not (is_before order i d.time)) e).0, rest)
    at false e rest = rest

any_is : (pairs some : List (ℕ × ℕ)) → if_any pairs ≡ Some some → pairs ≡ some
any_is [] some e = absurd cc
any_is (p ∷ pairs) some e = cc

-- What the row adds: an event, a term whose Fr it uses, and the pairs that are missing for them.
record Adds (s t : System) : Type 0 where
  event : Event
  term : Term Variable
  stands : Member event s.events
  uses : Member term (happening_fresh event.happening)
  is : t ≡ with_pairs s (missing_pairs s.order event.time term s.events)

adds : (s t : System) → fresh_first s ≡ Some t → Adds s t
adds s t e =
    let r = mapped (with_pairs s) (first_some (missing_behind s) s.events) t e in
    let d = some_picked (missing_behind s) s.events r.0 r.1 in
    let u = some_picked (λ (t : Term Variable). if_any (missing_pairs s.order d.0.time t s.events)) (happening_fresh d.0.happening) r.0 d.2 in
    record {
      event = d.0;
      term = u.0;
      stands = d.1;
      uses = u.1;
      is = r.2 ∙ ap (with_pairs s) (sym (any_is (missing_pairs s.order d.0.time u.0 s.events) r.0 u.2));
    }

pub fresh_first_numbered : {N : Names} → (s t : System) → fresh_first s ≡ Some t → IsNumbered N s → IsNumbered N t × (s.next ≤ t.next)
fresh_first_numbered {N} s t e n =
    let a = adds s t e in
    let first : a.event.time < s.next = (every_member _ s.events a.event a.stands n.events).0 in
    let under = missing_each (BothUnder s.next) s.order a.event.time a.term s.events
    (every_weaken (InEvent N (Under s.next) (TimeUnder s.next))
    (λ (d : Event). comes_later a.event.time a.term d ≡ true → BothUnder s.next (a.event.time, d.time)) (λ d i e. (first, i.0)) s.events n.events) in
    let P : System → Type 0 = λ w. IsNumbered N w × (s.next ≤ w.next) in
    let pairs = missing_pairs s.order a.event.time a.term s.events in
    subst P (sym a.is) (order_numbered s n (s.order ++ pairs) (every_append (BothUnder s.next) s.order pairs n.order under), le_refl s.next)

-- a premise other than an Fr in which the term stands
taken_there : (t : Term Variable) (fs : List (Fact Variable)) → has_taken t fs ≡ true
    → (a : ℕ) × (f : Fact Variable) × AtPlace fs a f × (is_fr f ≡ false) × (is_part_of_one t f.args ≡ true)
taken_there t [] e = absurd cc
taken_there t (f ∷ fs) e =
    ⊎_elim
    (λ k. let both = and_parts (not (is_fr f)) (is_part_of_one t f.args) k in (zero, f, refl, not-true (is_fr f) both.0, both.1))
    (λ k. let r = taken_there t fs k in (suc r.0, r.1, r.2, r.3, r.4))
    (or_cases (not (is_fr f) && is_part_of_one t f.args) (has_taken t fs) e)

-- the value of a term stands in the values of the terms in which it stands
module _ (v : Values) (t : Term Variable) where
  alike_part : (u : Term Variable) → alike t u ≡ true → IsPart (valued v t) (valued v u)
  alike_part u e = subst (λ (w : Term Variable). IsPart (valued v t) (valued v w)) (alike_same t u e) (part_itself (valued v t))

  mutual
    occurs_part : (u : Term Variable) → is_part t u ≡ true → IsPart (valued v t) (valued v u)
    occurs_part (var x) e = alike_part (var x) e
    occurs_part (constant c) e = alike_part (constant c) e
    occurs_part (name n) e = alike_part (name n) e
    occurs_part (app f us) e = ⊎_elim (λ k. alike_part (app f us) k) (λ k. inr (occurs_parts us k)) (or_cases (alike t (app f us)) (is_part_of_one t us) e)

    occurs_parts : (us : Terms Variable) → is_part_of_one t us ≡ true → IsPartOfOne (valued v t) (valued_all v us)
    occurs_parts none e = absurd cc
    occurs_parts (more u us) e = ⊎_elim (λ k. inl (occurs_part u k)) (λ k. inr (occurs_parts us k)) (or_cases (is_part t u) (is_part_of_one t us) e)

-- what a rule takes fresh is a variable of sort fresh
abbrev TakesFresh : List (Fact Variable) → Type 0
TakesFresh fs = Every (λ (f : Fact Variable). is_fr f ≡ true → IsFreshVariable f.args) fs

fresh_variable : (fs : List (Fact Variable)) → TakesFresh fs → (u : Term Variable) → Member u (fresh_terms fs) → (x : Variable) × (x.sort ≡ Fresh) × (u ≡ var x)
fresh_variable [] h u m = absurd m
fresh_variable (f ∷ fs) h u m = at (is_fr f) refl m (λ k. fresh_variable fs h.1 u k)
  where
    at : (b : Bool) → is_fr f ≡ b → Member u ((if b then first_term f.args else []) ++ fresh_terms fs)
        → (Member u (fresh_terms fs) → (x : Variable) × (x.sort ≡ Fresh) × (u ≡ var x))
        → (x : Variable) × (x.sort ≡ Fresh) × (u ≡ var x)
    at true e k later =
        let x = h.0 e in
        let l : (var x.0 ≡ u) ⊎ Member u (fresh_terms fs) = subst (λ (ts : Terms Variable). Member u (first_term ts ++ fresh_terms fs)) x.2 k in
        ⊎_elim (λ i. (x.0, x.1, sym i)) later l
    at false e k later = later k

fresh_name : (v : Values) → RespectsSorts v → (fs : List (Fact Variable)) → TakesFresh fs → (t : Ground) → Member t (fresh_of (map (fact_at v) fs))
    → (n : ℕ) × (t ≡ name n)
fresh_name v sorts fs h t m =
    let u = member_mapped (valued v) t (fresh_terms fs) (subst (Member t) (fresh_values v fs) m) in
    let x = fresh_variable fs h u.0 u.1 in
    let whole : v x.0 ≡ t = ap (valued v) (sym x.2) ∙ u.2 in
    is_name t (subst (λ (s : Sort). HasSort s t) x.1 (subst (HasSort x.0.sort) whole (sorts x.0)))

-- a term whose value is a name is the one that stands in it
only_itself : (v : Values) (t u : Term Variable) (n : ℕ) → is_part t u ≡ true → valued v u ≡ name n → t ≡ u
only_itself v t (var x) n e k = alike_same t (var x) e
only_itself v t (constant c) n e k = alike_same t (constant c) e
only_itself v t (name j) n e k = alike_same t (name j) e
only_itself v t (app f us) n e k = absurd cc

-- happenings that learn one term are found to
both_learn : (t u : Term Variable) (way other : Way) (i j : ℕ) → t ≡ u
    → learn_same (record { time = i; happening = learning t way }) (record { time = j; happening = learning u other }) ≡ true
both_learn t u way other i j e = (same_by_decides _ same_variable_decides t u).1 e

module _ (log : Log) (v : Valuation) (p : ℕ) where
  -- the entry of what happens
  happens_below : (h : Happening) → HappensAt log p v h → p < length log
  happens_below (rule_step r facts) k = position_below log p (step r (facts_at v.terms facts) k.0) k.1
  happens_below (sending m) k = position_below log p (send (valued v.terms m)) k
  happens_below (learning m way) k = position_below log p (learn (valued v.terms m) k.0) k.1

  -- where a name of the adversary's own is learnt, only what says so uses an Fr
  own_event : (a : Happening) (t : Term Variable) → HappensAt log p v a → Member t (happening_fresh a) → (g : Ground) (how : How)
      → AtPosition log p (learn g how) → a ≡ learning t own_name
  own_event (rule_step r facts) t k m g how there =
      let one : step r (facts_at v.terms facts) k.0 ≡ learn g how = position_one log p (step r (facts_at v.terms facts) k.0) (learn g how) k.1 there in
      absurd cc
  own_event (sending u) t k m g how there = absurd m
  own_event (learning u own_name) t k (inl e) g how there = ap (λ (x : Term Variable). learning x own_name) e
  own_event (learning u own_name) t k (inr m) g how there = absurd m
  own_event (learning u anyhow) t k m g how there = absurd m
  own_event (learning u public_name) t k m g how there = absurd m
  own_event (learning u constructed) t k m g how there = absurd m
  own_event (learning u (chain_begun i k ts)) t h m g how there = absurd m
  own_event (learning u (chain_done i k ts)) t h m g how there = absurd m

module _ (N : Names) (right : UnifierIsRight) (theory : Theory) (good : HasNormalInstances theory) (shown : Every BindsActions theory.rules)
    (bound : Every BindsConclusions theory.rules)
    (fresh : Every TakesFreshNames theory.rules) where
  module _ (log : Log) (is : IsLog theory log) (v : Valuation) where
    -- what is used as an Fr is a name
    used_name : (p : ℕ) (a : Happening) (t : Term Variable) → HappensAt log p v a → Member t (happening_fresh a) → (n : ℕ) × (valued v.terms t ≡ name n)
    used_name p (rule_step r f) t h m =
        let facts = facts_at v.terms f in
        let s = normal_step theory good shown bound fresh r facts ((entry_behind theory log is p (step r facts h.0) h.1).keeps rule_instance) in
        fresh_name s.values s.sorts s.rule.facts.premises (every_member TakesFreshNames theory.rules s.rule s.is_rule fresh) (valued v.terms t)
        (subst (λ (x : List (Fact ⊥)). Member (valued v.terms t) (fresh_of x)) s.premises (fresh_member v.terms t f.premises m))
    used_name p (sending u) t h m = absurd m
    used_name p (learning u own_name) t h (inl e) =
        let g = valued v.terms u in
        let own : AtPosition log p (learn g logs.own_name) = subst (λ (x : How). AtPosition log p (learn g x)) h.2 h.1 in
        let sort : HasSort Fresh g = (entry_behind theory log is p (learn g logs.own_name) own).keeps way_of_learning in
        is_name (valued v.terms t) (subst (λ (x : Term Variable). HasSort Fresh (valued v.terms x)) e sort)
    used_name p (learning u own_name) t h (inr m) = absurd m
    used_name p (learning u anyhow) t h m = absurd m
    used_name p (learning u public_name) t h m = absurd m
    used_name p (learning u constructed) t h m = absurd m
    used_name p (learning u (chain_begun i k ts)) t h m = absurd m
    used_name p (learning u (chain_done i k ts)) t h m = absurd m

    abbrev origins : HasOrigins log
    origins = has_origins theory good shown bound fresh log is

    -- an event at p uses the Fr of the term
    module _ (p : ℕ) (a : Happening) (t : Term Variable) (h : HappensAt log p v a) (m : Member t (happening_fresh a)) where
      abbrev n : ℕ
      n = (used_name p a t h m).0

      -- who uses the name is there
      user_at : (q : ℕ) → IsUsedBefore log q n → p < q
      user_at q o =
          let d = happening_uses log p v a h t m in
          let uses = subst (λ (x : Ground). Member x (fresh_uses d.0)) (used_name p a t h m).1 d.2 in
          subst (λ (x : ℕ). x < q) (one_position theory log is o.0 p o.1 d.0 (name n) o.2 d.1 o.3 uses) o.4

      taken_later : (q : ℕ) (b : Happening) → HappensAt log q v b → has_taken t (happening_premises b) ≡ true → p < q
      taken_later q b k e =
          let w = taken_there t (happening_premises b) e in
          let y = premise_event log q v b k w.0 w.1 w.2 in
          let f = fact_at v.terms w.1 in
          let part : IsPartOfOne (name n) f.args =
          subst (λ (x : Ground). IsPartOfOne x (valued_all v.terms w.1.args)) (used_name p a t h m).1 (occurs_parts v.terms t w.1.args w.4) in
          let not_one : is_fr f ≡ false = w.3 in
          let other : f ≡ fr (name n) → ⊥ = λ s. let is_one : is_fr f ≡ true = ap (λ (x : Fact ⊥). is_fr x) s in absurd cc in
          user_at q (origins.premise q y.0 y.1 y.2 y.3 f (place_member y.1.premises w.0 f y.4) n other part)

      -- what learns a message with the name is later, or learns the name itself as the adversary's own
      learnt_later : (q : ℕ) (u : Term Variable) (way : Way) → HappensAt log q v (learning u way) → is_part t u ≡ true
          → (p < q) ⊎ ((a ≡ learning t own_name) × (t ≡ u))
      learnt_later q u way k e = at k.0 k.1
        where
          part : IsPart (name n) (valued v.terms u)
          part = subst (λ (x : Ground). IsPart x (valued v.terms u)) (used_name p a t h m).1 (occurs_part v.terms t u e)

          earlier : (how : How) → AtPosition log q (learn (valued v.terms u) how) → (how ≡ logs.own_name → ⊥) → (p < q) ⊎ ((a ≡ learning t own_name) × (t ≡ u))
          earlier how there other = inl (user_at q (origins.learnt q (valued v.terms u) how there other n part))

          at : (how : How) → AtPosition log q (learn (valued v.terms u) how) → (p < q) ⊎ ((a ≡ learning t own_name) × (t ≡ u))
          at logs.own_name there =
              let whole = origins.own q (valued v.terms u) there n part in
              let d = happening_uses log p v a h t m in
              let uses = subst (λ (x : Ground). Member x (fresh_uses d.0)) (used_name p a t h m).1 d.2 in
              let one = one_position theory log is q p (learn (valued v.terms u) logs.own_name) d.0 (name n) there d.1 (inl whole) uses in
              let here = subst (λ (x : ℕ). AtPosition log x (learn (valued v.terms u) logs.own_name)) one there in
              inr (own_event log v p a t h m (valued v.terms u) logs.own_name here, only_itself v.terms t u n e whole)
          at logs.public_name there = earlier logs.public_name there (λ x. cc)
          at logs.constructed there = earlier logs.constructed there (λ x. cc)
          at (logs.by_chain c k chain) there = earlier (logs.by_chain c k chain) there (λ x. cc)

  -- In the row's turn no two events learn one message.
  module _ (s : System) (once : learn_once s ≡ None) (numbered : IsNumbered N s) (log : Log) (is : IsLog theory log) (v : Valuation)
      (h : Solves theory log v s) where
    own_apart : (a d : Event) → Member a s.events → Member d s.events → (t : Term Variable) (way : Way) → a.happening ≡ learning t own_name
        → d.happening ≡ learning t way → (a.time ≡ d.time → ⊥) → ⊥
    own_apart a d x y t way own other apart =
        none_two learn_same s.events (each_learns_another N right theory s once numbered log is v h) a d x y (λ e. apart (ap (λ (z : Event). z.time) e))
        (learns_so a d own_name way own other) (learns_so d a way own_name other own)
      where
        learns_so : (b c : Event) (one two : Way) → b.happening ≡ learning t one → c.happening ≡ learning t two → learn_same b c ≡ true
        learns_so b c one two e k =
            subst (λ (z : Happening). learn_same (record { time = b.time; happening = z }) c ≡ true) (sym e)
            (subst (λ (z : Happening). learn_same (record { time = b.time; happening = learning t one }) (record { time = c.time; happening = z }) ≡ true)
            (sym k) (both_learn t t one two b.time c.time refl))

    -- the event that uses the term's Fr is before each that has to be later
    before : (a d : Event) → Member a s.events → Member d s.events → (t : Term Variable) → Member t (happening_fresh a.happening)
        → comes_later a.time t d ≡ true → v.times a.time < v.times d.time
    before a d x y t m e =
        ⊎_elim
        (λ k. taken_later log is v p a.happening t user m q d.happening there k)
        (λ k. let both = and_parts (has_learnt t d.happening) (not (d.time == a.time)) k in learns d.happening refl both.0 (not-true (d.time == a.time) both.1))
        (or_cases (has_taken t (happening_premises d.happening)) (has_learnt t d.happening && not (d.time == a.time)) e)
      where
        p : ℕ
        p = v.times a.time

        q : ℕ
        q = v.times d.time

        user : HappensAt log (v.times a.time) v a.happening
        user = every_member (HappensIn log v) s.events a x h.events

        there : HappensAt log (v.times d.time) v d.happening
        there = every_member (HappensIn log v) s.events d y h.events

        learns : (b : Happening) → d.happening ≡ b → has_learnt t b ≡ true → (d.time == a.time) ≡ false → v.times a.time < v.times d.time
        learns (rule_step r facts) k l apart = absurd cc
        learns (sending u) k l apart = absurd cc
        learns (learning u way) k l apart =
            ⊎_elim
            (λ less. less)
            (λ own. absurd (own_apart a d x y t way own.0 (k ∙ ap (λ (z : Term Variable). learning z way) (sym own.1))
            (λ z. let same : (d.time == a.time) ≡ true = eq-eqb d.time a.time (sym z) in cc)))
            (learnt_later log is v p a.happening t user m q u way (subst (HappensAt log q v) k there) l)

  pub fresh_first_covers : (s t : System) → fresh_first s ≡ Some t → learn_once s ≡ None → IsNumbered N s → Covers theory s (t ∷ [])
  fresh_first_covers s t e once n =
      let a = adds s t e in
      let pairs = missing_pairs s.order a.event.time a.term s.events in
      covers_by_itself theory s t (λ log is v h.
      let later = every_from (λ (d : Event). comes_later a.event.time a.term d ≡ true → IsBefore log v (a.event.time, d.time)) s.events
      (λ d m k.
      let there = every_member (HappensIn log v) s.events d m h.events in
      (before s once n log is v h a.event d a.stands m a.term a.uses k, happens_below log v (v.times d.time) d.happening there)) in
      let all = every_append (IsBefore log v) s.order pairs h.order (missing_each (IsBefore log v) s.order a.event.time a.term s.events later) in
      subst (Solves theory log v) (sym a.is) (order_solves theory log v s h (s.order ++ pairs) all))
