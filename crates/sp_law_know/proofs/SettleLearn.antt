-- Settle a learn: a public name is learnt as one, and a public symbol without arguments and a pair by applying a symbol to what was learnt before.
use Rattle.std.proofs.Common.{◌≡◌, ◌≤◌, ◌<◌, ℕ, zero, Bool, true, false, List, [], ◌∷◌, length, codes, Some, refl, sym, ap, ◌∙◌, subst, inl, inr, le_refl, le_trans, lt_of_lt_of_le}
use Rattle.std.proofs.lemmas.Slice.Eq.{bytes_eq-Decides}
use Rattle.std.specs.Str.{bytes_eq}
use Rattle.sp_spec.specs.Lists.{Member, AtPosition}
use Rattle.sp_spec.specs.Term.{Names, Sort, Msg, Fresh, Pub, Variable, Term, var, constant, name, app, Terms, none, more, MadeOf, AllMadeOf, Values, valued, valued_all, list_of}
use Rattle.sp_spec.specs.Signature.{Symbol, HasSort, RespectsSorts}
use Rattle.sp_spec.specs.Destruction.{is_public}
use Rattle.sp_spec.specs.Theory.{Theory, signature_of}
use Rattle.sp_spec.specs.Log.{Log, How, learn, IsMadeAlone, IsLog}
use Rattle.sp_spec.proofs.Lists.{every_member, position_below}
use Rattle.sp_spec.proofs.Options.{mapped, some_same}
use Rattle.sp_law_log.proofs.Destructions.{is_public_tells}
use Rattle.sp_spec_system.specs.System.{Way, anyhow, public_name, own_name, constructed, chain_begun, chain_done, Happening, rule_step, sending, learning, Event, System, with_events}
use Rattle.sp_spec_system.specs.Solutions.{Valuation, IsWayOf, HappensAt, HappensIn, Solves}
use Rattle.sp_spec_system.specs.Numbered.{InWay, InHappening, InEvent, IsNumbered}
use Rattle.sp_spec_system.specs.Covering.{Covers}
use Rattle.sp_spec_system.specs.Picked.{first_some}
use Rattle.sp_spec_system.specs.MakingOne.{learnt_by_at}
use Rattle.sp_law_equal.proofs.Made.{each_weaken_all}
use Rattle.sp_law_system.proofs.Solutions.{Under, TimeUnder, agrees_itself, agrees_then}
use Rattle.sp_law_formula.proofs.MergedKept.{learnt_found}
use Rattle.sp_law_system.proofs.With.{events_solve, events_numbered}
use Rattle.sp_law_system.proofs.LearntBy.{IsWayAt, learnt_by_at_happens, learnt_by_at_numbered}
use Rattle.sp_law_formula.proofs.Matches.{some_picked}
use Rattle.sp_spec_know.specs.Learning.{learnt_before}
use Rattle.sp_spec_know.specs.SettleLearn.{Settling, of_sort_pub, made_of, settling, settling_of, settled_event, each_learnt_before, with_settling, settle_learn}
use Rattle.sp_law_know.proofs.Learnt.{AreLearntBefore, learnt_public, learnt_made}
use Rattle.sp_law_know.proofs.KnowParts.{way_at, still_learnt}
use Rattle.sp_law_know.proofs.Learning.{SolvedLater, learnt_before_numbered, learnt_before_solved}

abbrev settling_as : ℕ → Way → Terms Variable → Settling
settling_as i way ts = record { time = i; way = way; parts = list_of ts }

module _ (theory : Theory) (N : Names) (n i : ℕ) (m : Term Variable) where
  -- What the settling says holds of each entry that learns the message: so it was learnt, and its parts before.
  record Settled (x : Settling) : Type 0 where
    way : Way
    parts : Terms Variable
    is : x ≡ settling_as i way parts
    way_in : InWay N (Under n) (TimeUnder n) way
    parts_in : MadeOf N (Under n) m → AllMadeOf N (Under n) parts
    holds : (log : Log) → IsLog theory log → (v : Valuation) → RespectsSorts v.terms → (p : ℕ) (how : How) → AtPosition log p (learn (valued v.terms m) how)
        → IsWayOf v way how × AreLearntBefore log p (valued_all v.terms parts)

  settled_public : ((v : Values) → RespectsSorts v → HasSort Pub (valued v m)) → (x : Settling) → x ≡ settling_as i public_name none → Settled x
  settled_public public x e = record {
    way = public_name;
    parts = none;
    is = e;
    way_in = tt;
    parts_in = λ u. tt;
    holds = λ log is v sorts p how there. (learnt_public theory log is p (valued v.terms m) how there (public v.terms sorts), tt);
  }

  settled_made : (f : List ℕ) (ts : Terms Variable) → m ≡ app f ts → ((v : Values) → IsMadeAlone (signature_of theory) (valued v m)) → (x : Settling)
      → x ≡ settling_as i constructed ts → Settled x
  settled_made f ts of made x e = record {
    way = constructed;
    parts = ts;
    is = e;
    way_in = tt;
    parts_in = λ u. subst (MadeOf N (Under n)) of u;
    holds = λ log is v sorts p how there.
        learnt_made theory log is p (valued v.terms m) how there f (valued_all v.terms ts) (ap (valued v.terms) of) (made v.terms);
  }

module _ (theory : Theory) (N : Names) (n i : ℕ) where
  abbrev symbols : List Symbol
  symbols = (signature_of theory).symbols

  of_sort : (y : Variable) (x : Settling) (sort : Sort) → y.sort ≡ sort → of_sort_pub sort i ≡ Some x → Settled theory N n i (var y) x
  of_sort y x Pub k e =
      settled_public theory N n i (var y) (λ v sorts. subst (λ (z : Sort). HasSort z (v y)) k (sorts y)) x (some_same (settling_as i public_name none) x e)
  of_sort y x Msg k e = absurd cc
  of_sort y x Fresh k e = absurd cc

  of_symbol : (f : List ℕ) (x : Settling) (b : Bool) → is_public symbols f zero ≡ b → made_of b i [] ≡ Some x → Settled theory N n i (app f none) x
  of_symbol f x true k e =
      settled_made theory N n i (app f none) f none refl (λ v. inr (inl (f, is_public_tells symbols f zero k, refl))) x
      (some_same (settling_as i constructed none) x e)
  of_symbol f x false k e = absurd cc

  of_pair : (f : List ℕ) (t u : Term Variable) (x : Settling) (b : Bool) → bytes_eq f (codes "pair") ≡ b → made_of b i (t ∷ u ∷ []) ≡ Some x
      → Settled theory N n i (app f (more t (more u none))) x
  of_pair f t u x true k e =
      let ts : Terms Variable = more t (more u none) in
      let is_pair : (v : Values) → IsMadeAlone (signature_of theory) (app f (valued_all v ts)) =
      λ v. inl (valued v t, valued v u, ap (λ (g : List ℕ). app g (valued_all v ts)) ((bytes_eq-Decides f (codes "pair")).0 k)) in
      settled_made theory N n i (app f ts) f ts refl is_pair x (some_same (settling_as i constructed ts) x e)
  of_pair f t u x false k e = absurd cc

  settled : (m : Term Variable) (x : Settling) → settling symbols i m ≡ Some x → Settled theory N n i m x
  settled (var y) x e = of_sort y x y.sort refl e
  settled (constant c) x e = settled_public theory N n i (constant c) (λ v sorts. tt) x (some_same (settling_as i public_name none) x e)
  settled (name k) x e = absurd cc
  settled (app f none) x e = of_symbol f x (is_public symbols f zero) refl e
  settled (app f (more t none)) x e = absurd cc
  settled (app f (more t (more u none))) x e = of_pair f t u x (bytes_eq f (codes "pair")) refl e
  settled (app f (more t (more u (more w ws)))) x e = absurd cc

-- it is learnt anyhow
settled_learning : (symbols : List Symbol) (i : ℕ) (h : Happening) (x : Settling) → settling_of symbols i h ≡ Some x
    → (m : Term Variable) × (h ≡ learning m anyhow) × (settling symbols i m ≡ Some x)
settled_learning symbols i (rule_step r facts) x e = absurd cc
settled_learning symbols i (sending m) x e = absurd cc
settled_learning symbols i (learning m anyhow) x e = (m, refl, e)
settled_learning symbols i (learning m public_name) x e = absurd cc
settled_learning symbols i (learning m own_name) x e = absurd cc
settled_learning symbols i (learning m constructed) x e = absurd cc
settled_learning symbols i (learning m (chain_begun j k ts)) x e = absurd cc
settled_learning symbols i (learning m (chain_done j k ts)) x e = absurd cc

-- ---- parts that are learnt before, one after the other

module _ {N : Names} (i : ℕ) where
  each_numbered : (ts : Terms Variable) (s : System) → IsNumbered N s → AllMadeOf N (Under s.next) ts → i < s.next
      → IsNumbered N (each_learnt_before i (list_of ts) s) × (s.next ≤ (each_learnt_before i (list_of ts) s).next)
  each_numbered none s n under i_under = (n, le_refl s.next)
  each_numbered (more t ts) s n under i_under =
      let one = learnt_before_numbered s n t under.0 i i_under in
      let next = (learnt_before t i s).next in
      let rest = each_numbered ts (learnt_before t i s) one.0 (each_weaken_all N (Under s.next) (Under next) (λ x k. lt_of_lt_of_le k one.1) ts under.1)
      (lt_of_lt_of_le i_under one.1) in
      (rest.0, le_trans one.1 rest.1)

  each_solved : (theory : Theory) (log : Log) → IsLog theory log → (ts : Terms Variable) (s : System) → IsNumbered N s → AllMadeOf N (Under s.next) ts
      → i < s.next
      → (v : Valuation) → Solves theory log v s → AreLearntBefore log (v.times i) (valued_all v.terms ts) → v.times i < length log
      → SolvedLater theory log s.next v (each_learnt_before i (list_of ts) s)
  each_solved theory log is none s n under i_under v h known below = (v, agrees_itself s.next v, h)
  each_solved theory log is (more t ts) s n under i_under v h known below =
      let first = known.0 in
      let one = learnt_before_numbered s n t under.0 i i_under in
      let new = learnt_before_solved s n t under.0 i i_under theory log is v h first.0 first.1 first.2 first.3 below in
      let w = new.0 in
      let agrees = new.1 in
      let next = (learnt_before t i s).next in
      let still = still_learnt N log s.next i v w agrees i_under ts under.1 known.1 in
      let rest = each_solved theory log is ts (learnt_before t i s) one.0
      (each_weaken_all N (Under s.next) (Under next) (λ x k. lt_of_lt_of_le k one.1) ts under.1) (lt_of_lt_of_le i_under one.1)
      w new.2 still (subst (λ (p : ℕ). p < length log) (sym (agrees.times i i_under)) below) in
      (rest.0, agrees_then s.next next v w rest.0 one.1 agrees rest.1, rest.2)

-- ---- the row

module _ (theory : Theory) {N : Names} (s t : System) (e : settle_learn (signature_of theory).symbols s ≡ Some t) (n : IsNumbered N s) where
  -- an event that learns a message anyhow, and what the row settles of it
  record Settles : Type 0 where
    event : Event
    message : Term Variable
    settling : Settling
    stands : Member event s.events
    learns : event.happening ≡ learning message anyhow
    made : MadeOf N (Under s.next) message
    settled : Settled theory N s.next event.time message settling
    is : t ≡ with_settling s settling

  settles : Settles
  settles =
      let symbols = (signature_of theory).symbols in
      let r = mapped (with_settling s) (first_some (settled_event symbols) s.events) t e in
      let d = some_picked (settled_event symbols) s.events r.0 r.1 in
      let l = settled_learning symbols d.0.time d.0.happening r.0 d.2 in
      let happening = (every_member (InEvent N (Under s.next) (TimeUnder s.next)) s.events d.0 d.1 n.events).1 in
      record {
        event = d.0;
        message = l.0;
        settling = r.0;
        stands = d.1;
        learns = l.1;
        made = (subst (InHappening N (Under s.next) (TimeUnder s.next)) l.1 happening).0;
        settled = settled theory N s.next d.0.time l.0 r.0 l.2;
        is = r.2;
      }

  abbrev a : Settles
  a = settles

  abbrev i : ℕ
  i = a.event.time

  abbrev with_way : System
  with_way = with_events s (learnt_by_at i a.settled.way s.events)

  -- the row's system
  result : t ≡ each_learnt_before i (list_of a.settled.parts) with_way
  result = a.is ∙ ap (with_settling s) a.settled.is

  time_in : i < s.next
  time_in = (every_member (InEvent N (Under s.next) (TimeUnder s.next)) s.events a.event a.stands n.events).0

  way_numbered : IsNumbered N with_way
  way_numbered =
      events_numbered s n (learnt_by_at i a.settled.way s.events)
      (learnt_by_at_numbered N (Under s.next) (TimeUnder s.next) i a.settled.way a.settled.way_in s.events n.events)

  module _ (log : Log) (is : IsLog theory log) (v : Valuation) (h : Solves theory log v s) where
    here : HappensAt log (v.times i) v (learning a.message anyhow)
    here = subst (HappensAt log (v.times i) v) a.learns (every_member (HappensIn log v) s.events a.event a.stands h.events)

    settled_so : IsWayOf v a.settled.way here.0 × AreLearntBefore log (v.times i) (valued_all v.terms a.settled.parts)
    settled_so = a.settled.holds log is v (λ x. (h.sorts x).0) (v.times i) here.0 here.1

    way_there : IsWayAt log (v.times i) v a.settled.way
    way_there = way_at log (v.times i) v a.settled.way (valued v.terms a.message) here.0 here.1 settled_so.0

    settle_solved : SolvedLater theory log s.next v t
    settle_solved =
        let way_solved = events_solve theory log v s h (learnt_by_at i a.settled.way s.events) (learnt_found v i a.settled.way s.events)
        (learnt_by_at_happens log v i a.settled.way way_there s.events h.events) in
        let below = position_below log (v.times i) (learn (valued v.terms a.message) here.0) here.1 in
        subst (SolvedLater theory log s.next v) (sym result)
        (each_solved i theory log is a.settled.parts with_way way_numbered (a.settled.parts_in a.made) time_in v way_solved settled_so.1 below)

  pub settle_learn_covers : Covers theory s (t ∷ [])
  settle_learn_covers = record { covers = λ log is v h none. let so = settle_solved log is v h in none.0 so.0 so.1 so.2 }

pub settle_learn_numbered : (theory : Theory) {N : Names} (s t : System) → settle_learn (signature_of theory).symbols s ≡ Some t → IsNumbered N s → IsNumbered N t × (s.next ≤ t.next)
settle_learn_numbered theory {N = N} s t e n =
    let x = settles theory s t e n in
    let P : System → Type 0 = λ w. IsNumbered N w × (s.next ≤ w.next) in
    subst P (sym (result theory s t e n))
    (each_numbered x.event.time x.settled.parts (with_way theory s t e n) (way_numbered theory s t e n) (x.settled.parts_in x.made) (time_in theory s t e n))
