-- Two systems of which the second is renamed have a solution together where each has one.
use Rattle.std.proofs.Common.{◌≡◌, ◌≤◌, ◌<◌, ◌+◌, ◌-◌, ◌++◌, ℕ, Option, option_map, List, [], ◌∷◌, map, Bool, true, false, if◌then◌else◌, nat_lt, refl, sym, ap, ◌∙◌, subst, inl, inr, ⊎_elim, arith}
use Rattle.std.proofs.lemmas.Bool.{lt-ltb, le-ltb}
use Rattle.std.proofs.lemmas.List.{map-append}
use Rattle.sp_spec.specs.Lists.{Member, Distinct}
use Rattle.sp_spec.specs.Term.{Names, Ground}
use Rattle.sp_spec.specs.Signature.{IsValue}
use Rattle.sp_spec.specs.Equal.{IsNormal}
use Rattle.sp_spec.specs.Log.{Log}
use Rattle.sp_spec.specs.Theory.{Theory, signature_of}
use Rattle.sp_spec_system.specs.System.{Event, System, with_closed}
use Rattle.sp_spec_system.specs.Solutions.{Valuation, IsLast, Solves}
use Rattle.sp_spec_system.specs.Numbered.{InEvent, HappenOnce, IsNumbered}
use Rattle.sp_spec_system.specs.Covering.{Agrees}
use Rattle.sp_spec.proofs.Lists.{every_append, every_parts, every_member, member_left, member_either, member_mapped}
use Rattle.sp_law_system.proofs.Solutions.{Under, TimeUnder}
use Rattle.sp_law_system.proofs.With.{next_numbered}
use Rattle.sp_spec_system.specs.Together.{together}
use Rattle.sp_spec_sources.specs.Entries.{IsOpenEnded}
use Rattle.sp_law_sources.specs.Laws.{IsRaised, AreValues, TogetherIsBoth}
use Rattle.sp_law_sources.specs.Raised.{extended}

if_true : {A : Type 0} (b : Bool) (x y : A) → b ≡ true → (if b then x else y) ≡ x
if_true true x y e = refl
if_true false x y e = absurd cc

if_false : {A : Type 0} (b : Bool) (x y : A) → b ≡ false → (if b then x else y) ≡ y
if_false true x y e = absurd cc
if_false false x y e = refl

module _ (n : ℕ) (v w : Valuation) where
  pub extended_agrees : Agrees n v (extended n v w)
  extended_agrees = record {
    terms = λ x k. if_true (nat_lt x.number n) _ _ (lt-ltb x.number n k);
    times = λ i k. if_true (nat_lt i n) _ _ (lt-ltb i n k);
  }

  taken_back : (k : ℕ) → (n + k) - n ≡ k
  taken_back k = omega arith

  pub extended_raised : (limit : ℕ) → IsRaised n limit w (extended n v w)
  extended_raised limit = record {
    terms = λ x k. if_false (nat_lt (n + x.number) n) _ _ (le-ltb (n + x.number) n (omega arith)) ∙ ap (λ (i : ℕ). w.terms (record { sort = x.sort; number = i })) (taken_back x.number);
    times = λ i k. if_false (nat_lt (n + i) n) _ _ (le-ltb (n + i) n (omega arith)) ∙ ap w.times (taken_back i);
  }

  pub extended_values : (theory : Theory) → AreValues theory v → AreValues theory w → AreValues theory (extended n v w)
  extended_values theory a b = record {
    sorts = λ x. either (IsValue (signature_of theory) x.sort) (nat_lt x.number n) _ _ (a.sorts x) (b.sorts (record { sort = x.sort; number = x.number - n }));
    normal = λ x. either (IsNormal (signature_of theory).equations) (nat_lt x.number n) _ _ (a.normal x) (b.normal (record { sort = x.sort; number = x.number - n }));
  }
    where
      either : (P : Ground → Type 0) (c : Bool) (t u : Ground) → P t → P u → P (if c then t else u)
      either P true t u h k = h
      either P false t u h k = k

-- the parts of both
pub together_solves : (theory : Theory) (log : Log) (v : Valuation) (s t : System) → Solves theory log v s → Solves theory log v t → Solves theory log v (together s t)
together_solves theory log v s t h k = record {
  sorts = h.sorts;
  normal = h.normal;
  events = every_append _ s.events t.events h.events k.events;
  formulas = every_append _ s.formulas t.formulas h.formulas k.formulas;
  spent = every_append _ s.spent t.spent h.spent k.spent;
  unequal = every_append _ s.unequal t.unequal h.unequal k.unequal;
  links = every_append _ s.links t.links h.links k.links;
  order = every_append _ s.order t.order h.order k.order;
  last = h.last;
  closed = λ c p l. let a = h.closed c p l in (a.0, member_left a.0 s.events t.events a.1, a.2);
}

-- so is the first without what it says of what happens beside its events
first_solves : (theory : Theory) (log : Log) (v : Valuation) (s t : System) → Solves theory log v (together s t) → Solves theory log v (with_closed s false)
first_solves theory log v s t h = record {
  sorts = h.sorts;
  normal = h.normal;
  events = (every_parts _ s.events t.events h.events).0;
  formulas = (every_parts _ s.formulas t.formulas h.formulas).0;
  spent = (every_parts _ s.spent t.spent h.spent).0;
  unequal = (every_parts _ s.unequal t.unequal h.unequal).0;
  links = (every_parts _ s.links t.links h.links).0;
  order = (every_parts _ s.order t.order h.order).0;
  last = h.last;
  closed = λ c. absurd cc;
}

-- and the second, which says nothing of the last time and isn't closed
second_solves : (theory : Theory) (log : Log) (v : Valuation) (s t : System) → IsOpenEnded t → Solves theory log v (together s t) → Solves theory log v t
second_solves theory log v s t open_ended h = record {
  sorts = h.sorts;
  normal = h.normal;
  events = (every_parts _ s.events t.events h.events).1;
  formulas = (every_parts _ s.formulas t.formulas h.formulas).1;
  spent = (every_parts _ s.spent t.spent h.spent).1;
  unequal = (every_parts _ s.unequal t.unequal h.unequal).1;
  links = (every_parts _ s.links t.links h.links).1;
  order = (every_parts _ s.order t.order h.order).1;
  last = subst (λ (o : Option ℕ). IsLast log v o) (sym open_ended.last) tt;
  closed = λ c. let g = open_ended.closed in absurd cc;
}

pub together_is_both_lem : TogetherIsBoth
together_is_both_lem = record {
  both = together_solves;
  first = first_solves;
  second = second_solves;
  start = λ taken h. record { last = refl; closed = refl };
  renamed = λ n c h. record { last = ap (option_map (λ i. n + i)) h.last; closed = h.closed };
}

pub together_numbered : (N : Names) (s t : System) → IsNumbered N s → IsNumbered N t → s.next ≤ t.next → IsNumbered N (together s t)
together_numbered N s t a k le =
    let h = next_numbered s a t.next le in
    record {
      events = every_append _ s.events t.events h.events k.events;
      formulas = every_append _ s.formulas t.formulas h.formulas k.formulas;
      spent = every_append _ s.spent t.spent h.spent k.spent;
      unequal = every_append _ s.unequal t.unequal h.unequal k.unequal;
      links = every_append _ s.links t.links h.links k.links;
      order = every_append _ s.order t.order h.order k.order;
      last = h.last;
    }

-- what stands in none of both lists twice, and not in both
distinct_both : {A : Type 0} (xs ys : List A) → Distinct xs → Distinct ys → ((x : A) → Member x xs → Member x ys → ⊥) → Distinct (xs ++ ys)
distinct_both [] ys d e apart = e
distinct_both (x ∷ xs) ys d e apart = (
  λ m. ⊎_elim d.0 (λ k. apart x (inl refl) k) (member_either x xs ys m),
  distinct_both xs ys d.1 e (λ y k l. apart y (inr k) l),
)

abbrev times_of : List Event → List ℕ
times_of events = map (λ (e : Event). e.time) events

-- no two events have one time where those of the second are behind the numbers of the first
pub together_once : (N : Names) (s : System) → IsNumbered N s → (t : System) → HappenOnce s.events → HappenOnce t.events → ((i : ℕ) → Member i (times_of t.events) → i < s.next → ⊥)
    → HappenOnce (together s t).events
together_once N s n t h k behind =
    subst Distinct (sym (map-append (λ (e : Event). e.time) s.events t.events))
    (distinct_both (times_of s.events) (times_of t.events) h k
    (λ i m l.
    let r = member_mapped (λ (e : Event). e.time) i s.events m in
    let under : r.0.time < s.next = (every_member (InEvent N (Under s.next) (TimeUnder s.next)) s.events r.0 r.1 n.events).0 in
    behind i l (subst (λ (j : ℕ). j < s.next) r.2 under)))
