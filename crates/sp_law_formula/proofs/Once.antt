-- No two events have one time: so it stays where two times are made one, and where an event is added at a new time.
use Rattle.std.proofs.Common.{◌≡◌, ◌⊎◌, ◌≤◌, ◌<◌, ℕ, zero, suc, Bool, true, false, if◌then◌else◌, ◌&&◌, ◌||◌, nat_eq, nat_lt, List, [], ◌∷◌, ◌++◌, map, length, Option, Some, None, option_map, option_and_then, refl, sym, ap, ap₂, ◌∙◌, subst, inl, inr, ⊎_elim, arith}
use Rattle.std.proofs.lemmas.Bool.{or_cases, and_parts, eqb-true, eq-eqb}
use Rattle.std.proofs.lemmas.List.{map-append}
use Rattle.sp_spec.specs.Lists.{Member, Distinct}
use Rattle.sp_spec.specs.Term.{Names, Variable, Term}
use Rattle.sp_spec.specs.Change.{time_replaced}
use Rattle.sp_spec.specs.Substitution.{Binding, bound_to}
use Rattle.sp_spec.specs.Unifier.{mgu}
use Rattle.sp_spec.proofs.Lists.{member_mapped, member_left, member_right, member_either, every_member, every_all}
use Rattle.sp_spec.proofs.Options.{mapped}
use Rattle.sp_spec_system.specs.System.{Way, Happening, Event, System, with_events}
use Rattle.sp_spec_system.specs.Numbered.{InEvent, HappenOnce, IsNumbered}
use Rattle.sp_spec_system.specs.Equating.{Merging, merging, event_changed, system_changed}
use Rattle.sp_spec_system.specs.MakingOne.{MergingEvents, merging_behind, merging_with, merging_from, merging_events, at_times, happening_by, learnt_by_at, one_time, Joining, joined, with_times, turn, all_joined, unified, made_one}
use Rattle.sp_law_system.proofs.Solutions.{Under, TimeUnder}
use Rattle.sp_law_formula.proofs.MadeOne.{joined_by}
use Rattle.sp_law_formula.proofs.Merged.{merging_are, IfThere, then_if_there}

-- ---- lists without twice the same

-- one element less
distinct_without : {A : Type 0} (xs : List A) (y : A) (ys : List A) → Distinct (xs ++ y ∷ ys) → Distinct (xs ++ ys) × (Member y (xs ++ ys) → ⊥)
distinct_without [] y ys d = (d.1, d.0)
distinct_without {A} (x ∷ xs) y ys d =
    let r = distinct_without xs y ys d.1 in (
      ((λ m. d.0 (more m)), r.0),
      λ m. ⊎_elim (λ e. d.0 (member_right x xs (y ∷ ys) (inl (sym e)))) (λ k. r.1 k) m,
    )
  where
    more : Member x (xs ++ ys) → Member x (xs ++ y ∷ ys)
    more m = ⊎_elim (λ k. member_left x xs (y ∷ ys) k) (λ k. member_right x xs (y ∷ ys) (inr k)) (member_either x xs ys m)

-- one more behind, which is new
distinct_behind : {A : Type 0} (xs : List A) (y : A) → Distinct xs → (Member y xs → ⊥) → Distinct (xs ++ y ∷ [])
distinct_behind [] y d new = ((λ m. m), tt)
distinct_behind (x ∷ xs) y d new = (
  λ m. ⊎_elim d.0 (λ k. ⊎_elim (λ e. new (inl (sym e))) (λ l. l) k) (member_either x xs (y ∷ []) m),
  distinct_behind xs y d.1 (λ m. new (inr m)),
)

-- what is one-to-one on the elements keeps them apart
distinct_map : {A B : Type 0} (f : A → B) (xs : List A) → ((x y : A) → Member x xs → Member y xs → f x ≡ f y → x ≡ y) → Distinct xs → Distinct (map f xs)
distinct_map f [] h d = tt
distinct_map f (x ∷ xs) h d = (
  λ m. let r = member_mapped f (f x) xs m in d.0 (subst (λ z. Member z xs) (h r.0 x (inr r.1) (inl refl) r.2) r.1),
  distinct_map f xs (λ y z m k. h y z (inr m) (inr k)) d.1,
)

-- ---- times of events

abbrev pub times_of : List Event → List ℕ
times_of events = map (λ (e : Event). e.time) events

-- a change of times is one of the times of the events
changed_times : (terms : Variable → Term Variable) (times : ℕ → ℕ) (es : List Event) → times_of (map (event_changed terms times) es) ≡ map times (times_of es)
changed_times terms times [] = refl
changed_times terms times (e ∷ es) = ap (λ (ts : List ℕ). times e.time ∷ ts) (changed_times terms times es)

same_times : (ts : List ℕ) → map (λ (i : ℕ). i) ts ≡ ts
same_times [] = refl
same_times (t ∷ ts) = ap (λ (us : List ℕ). t ∷ us) (same_times ts)

-- another way of learning changes none
pub learnt_times : (i : ℕ) (way : Way) (es : List Event) → times_of (learnt_by_at i way es) ≡ times_of es
learnt_times i way [] = refl
learnt_times i way (e ∷ es) = ap₂ (λ (t : ℕ) (ts : List ℕ). t ∷ ts) (same (nat_eq e.time i)) (learnt_times i way es)
  where
    same : (b : Bool) → (if b then record { time = e.time; happening = happening_by way e.happening } else e).time ≡ e.time
    same true = refl
    same false = refl

-- so events learnt in another way happen once
pub learnt_once : (i : ℕ) (way : Way) (es : List Event) → HappenOnce es → HappenOnce (learnt_by_at i way es)
learnt_once i way es h = subst Distinct (sym (learnt_times i way es)) h

-- an event at a time that no other has
pub added_once : (es : List Event) (e : Event) → (Member e.time (times_of es) → ⊥) → HappenOnce es → HappenOnce (es ++ e ∷ [])
added_once es e new h = subst Distinct (sym (map-append (λ (d : Event). d.time) es (e ∷ []))) (distinct_behind (times_of es) e.time h new)

-- an event at a time that the system's numbers are below
pub new_time_once : {N : Names} → (s : System) → IsNumbered N s → (i : ℕ) → s.next ≤ i → (happening : Happening) → HappenOnce s.events
    → HappenOnce (s.events ++ record { time = i; happening = happening } ∷ [])
new_time_once {N} s n i le happening h = added_once s.events (record { time = i; happening = happening }) new h
  where
    new : Member i (times_of s.events) → ⊥
    new m =
        let r = member_mapped (λ (e : Event). e.time) i s.events m in
        let below : r.0.time < s.next = (every_member (InEvent N (Under s.next) (TimeUnder s.next)) s.events r.0 r.1 n.events).0 in
        let e = r.2 in
        omega (arith, le, below, e)

-- ---- two times that are made one

-- not both times stand there, but where they are one
abbrev AreApart : ℕ → ℕ → List ℕ → Type 0
AreApart i j ts = Member i ts → Member j ts → i ≡ j

-- the smaller of two times for the larger is one-to-one where not both stand
replaced_once : (i j : ℕ) (ts : List ℕ) → AreApart i j ts → Distinct ts → Distinct (map (one_time (i, j)) ts)
replaced_once i j ts apart d = at (nat_lt j i)
  where
    one : (small large : ℕ) → AreApart small large ts → Distinct (map (time_replaced small large) ts)
    one small large k = distinct_map (time_replaced small large) ts (λ x y m l e. by x y m l (nat_eq x large) refl (nat_eq y large) refl e) d
      where
        by : (x y : ℕ) → Member x ts → Member y ts → (b : Bool) → nat_eq x large ≡ b → (c : Bool) → nat_eq y large ≡ c
            → (if b then small else x) ≡ (if c then small else y) → x ≡ y
        by x y m l true p true q e = eqb-true x large p ∙ sym (eqb-true y large q)
        by x y m l true p false q e =
            let is : x ≡ large = eqb-true x large p in
            is ∙ sym (k (subst (λ z. Member z ts) (sym e) l) (subst (λ z. Member z ts) is m)) ∙ e
        by x y m l false p true q e =
            let is : y ≡ large = eqb-true y large q in
            e ∙ k (subst (λ z. Member z ts) e m) (subst (λ z. Member z ts) is l) ∙ sym is
        by x y m l false p false q e = e

    at : (b : Bool) → Distinct (map (time_replaced (if b then j else i) (if b then i else j)) ts)
    at true = one j i (λ m l. sym (apart l m))
    at false = one i j apart

-- where no two events are at the two times, not both stand there
with_none : (are_one : Event → Event → Bool) (e : Event) (es : List Event) → merging_with are_one e es ≡ None → (d : Event) → Member d es → are_one e d ≡ false
with_none are_one e [] h d m = absurd m
with_none are_one e (c ∷ es) h d m = at (are_one e c) refl h m (λ k l. with_none are_one e es k d l)
  where
    here : MergingEvents
    here = record { first = e; second = c; others = es }

    at : (b : Bool) → are_one e c ≡ b → (if b then Some here else option_map (merging_behind c) (merging_with are_one e es)) ≡ None → Member d (c ∷ es)
        → (merging_with are_one e es ≡ None → Member d es → are_one e d ≡ false) → are_one e d ≡ false
    at true k l m later = absurd cc
    at false k l (inl g) later = subst (λ (x : Event). are_one e x ≡ false) g k
    at false k l (inr g) later = later (none (merging_with are_one e es) l) g
      where
        none : (o : Option MergingEvents) → option_map (merging_behind c) o ≡ None → o ≡ None
        none None n = refl
        none (Some r) n = absurd cc

-- they are one event, or aren't made one in one of the two orders
abbrev AreOther : (Event → Event → Bool) → Event → Event → Type 0
AreOther are_one x y = (x ≡ y) ⊎ ((are_one x y ≡ false) ⊎ (are_one y x ≡ false))

two_none : (are_one : Event → Event → Bool) (es : List Event) → merging_events are_one es ≡ None → (x y : Event) → Member x es → Member y es → AreOther are_one x y
two_none are_one [] h x y m l = absurd m
two_none are_one (e ∷ es) h x y m l = at (merging_with are_one e es) refl (merging_events are_one es) refl h m l (λ k p q. two_none are_one es k x y p q)
  where
    at : (o : Option MergingEvents) → merging_with are_one e es ≡ o → (later : Option MergingEvents) → merging_events are_one es ≡ later
        → merging_from e o later ≡ None → Member x (e ∷ es) → Member y (e ∷ es) → (merging_events are_one es ≡ None → Member x es → Member y es → AreOther are_one x y) → AreOther are_one x y
    at (Some r) a later b k m l again = absurd cc
    at None a (Some r) b k m l again = absurd cc
    at None a None b k (inl p) (inl q) again = inl (sym p ∙ q)
    at None a None b k (inl p) (inr q) again = inr (inl (subst (λ (z : Event). are_one z y ≡ false) p (with_none are_one e es a y q)))
    at None a None b k (inr p) (inl q) again = inr (inr (subst (λ (z : Event). are_one z x ≡ false) q (with_none are_one e es a x p)))
    at None a None b k (inr p) (inr q) again = again b p q

-- events at the two times are one, in either order
at_both : (i j : ℕ) (x y : Event) → x.time ≡ i → y.time ≡ j → (at_times i j x y ≡ true) × (at_times i j y x ≡ true)
at_both i j x y a b = (
  first (nat_eq x.time i) (nat_eq y.time j) _ (eq-eqb x.time i a) (eq-eqb y.time j b),
  second _ (nat_eq y.time j) (nat_eq x.time i) (eq-eqb y.time j b) (eq-eqb x.time i a),
)
  where
    first : (b c d : Bool) → b ≡ true → c ≡ true → (b && c || d) ≡ true
    first true true d p q = refl
    first true false d p q = absurd cc
    first false c d p q = absurd cc

    second : (d b c : Bool) → b ≡ true → c ≡ true → (d || b && c) ≡ true
    second true b c p q = refl
    second false true true p q = refl
    second false true false p q = absurd cc
    second false false c p q = absurd cc

none_apart : (i j : ℕ) (es : List Event) → merging_events (at_times i j) es ≡ None → AreApart i j (times_of es)
none_apart i j es h m l =
    let x = member_mapped (λ (e : Event). e.time) i es m in
    let y = member_mapped (λ (e : Event). e.time) j es l in
    let both = at_both i j x.0 y.0 x.2 y.2 in
    at x.0 y.0 x.2 y.2 both.0 both.1 (two_none (at_times i j) es h x.0 y.0 x.1 y.1)
  where
    at : (x y : Event) → x.time ≡ i → y.time ≡ j → at_times i j x y ≡ true → at_times i j y x ≡ true → AreOther (at_times i j) x y → i ≡ j
    at x y a b p q (inl e) = sym a ∙ ap (λ (z : Event). z.time) e ∙ b
    at x y a b p q (inr (inl e)) = absurd cc
    at x y a b p q (inr (inr e)) = absurd cc

-- all events but the second
record IsWithout (es : List Event) (r : MergingEvents) : Type 0 where
  front : List Event
  back : List Event
  whole : es ≡ front ++ r.second ∷ back
  left : r.others ≡ front ++ back

-- with one more in front
without_behind : (e : Event) (es : List Event) (q s : MergingEvents) → s.second ≡ q.second → s.others ≡ e ∷ q.others → IsWithout es q → IsWithout (e ∷ es) s
without_behind e es q s a b k = record {
  front = e ∷ k.front;
  back = k.back;
  whole = ap (λ (xs : List Event). e ∷ xs) (k.whole ∙ ap (λ (x : Event). k.front ++ x ∷ k.back) (sym a));
  left = b ∙ ap (λ (xs : List Event). e ∷ xs) k.left;
}

with_without : (are_one : Event → Event → Bool) (e : Event) (es : List Event) (r : MergingEvents) → merging_with are_one e es ≡ Some r → IsWithout es r
with_without are_one e [] r h = absurd cc
with_without are_one e (d ∷ es) r h = at (are_one e d) h (λ q l. with_without are_one e es q l)
  where
    here : MergingEvents
    here = record { first = e; second = d; others = es }

    at : (b : Bool) → (if b then Some here else option_map (merging_behind d) (merging_with are_one e es)) ≡ Some r
        → ((q : MergingEvents) → merging_with are_one e es ≡ Some q → IsWithout es q) → IsWithout (d ∷ es) r
    at true l later = let g : here ≡ r = cc in subst (IsWithout (d ∷ es)) g (record { front = []; back = es; whole = refl; left = refl })
    at false l later =
        let q = mapped (merging_behind d) (merging_with are_one e es) r l in
        subst (IsWithout (d ∷ es)) (sym q.2) (without_behind d es q.0 (merging_behind d q.0) refl refl (later q.0 q.1))

merging_without : (are_one : Event → Event → Bool) (es : List Event) (r : MergingEvents) → merging_events are_one es ≡ Some r → IsWithout es r
merging_without are_one [] r h = absurd cc
merging_without are_one (e ∷ es) r h = at (merging_with are_one e es) refl h (λ q l. merging_without are_one es q l)
  where
    at : (o : Option MergingEvents) → merging_with are_one e es ≡ o → merging_from e o (merging_events are_one es) ≡ Some r
        → ((q : MergingEvents) → merging_events are_one es ≡ Some q → IsWithout es q) → IsWithout (e ∷ es) r
    at (Some q) s l later =
        let made : MergingEvents = record { first = q.first; second = q.second; others = e ∷ q.others } in
        let g : made ≡ r = cc in
        subst (IsWithout (e ∷ es)) g (without_behind e es q made refl refl (with_without are_one e es q s))
    at None s l later =
        let q = mapped (merging_behind e) (merging_events are_one es) r l in
        subst (IsWithout (e ∷ es)) (sym q.2) (without_behind e es q.0 (merging_behind e q.0) refl refl (later q.0 q.1))

-- where two are made one, none is left at the time of the second, which is one of the two times
some_apart : (i j : ℕ) (es : List Event) (r : MergingEvents) → merging_events (at_times i j) es ≡ Some r → HappenOnce es → HappenOnce r.others × AreApart i j (times_of r.others)
some_apart i j es r h once =
    let k = merging_without (at_times i j) es r h in
    let time : Event → ℕ = λ e. e.time in
    let split = map-append time k.front (r.second ∷ k.back) in
    let whole : Distinct (times_of k.front ++ r.second.time ∷ times_of k.back) = subst Distinct (ap times_of k.whole ∙ split) once in
    let d = distinct_without (times_of k.front) r.second.time (times_of k.back) whole in
    let left : times_of r.others ≡ times_of k.front ++ times_of k.back = ap times_of k.left ∙ map-append time k.front k.back in
    let one = (merging_are (at_times i j) (λ e. Unit {0}) es r h (every_all (λ (e : Event). Unit {0}) (λ e. tt) es)).one in
    let gone : Member r.second.time (times_of r.others) → ⊥ = λ m. d.1 (subst (Member r.second.time) left m) in
    (subst Distinct (sym left) d.0, λ m l. absurd (at m l gone one))
  where
    at : Member i (times_of r.others) → Member j (times_of r.others) → (Member r.second.time (times_of r.others) → ⊥) → at_times i j r.first r.second ≡ true → ⊥
    at m l gone one =
        ⊎_elim
        (λ p. gone (subst (λ z. Member z (times_of r.others)) (sym (eqb-true r.second.time j (and_parts (nat_eq r.first.time i) (nat_eq r.second.time j) p).1)) l))
        (λ p. gone (subst (λ z. Member z (times_of r.others)) (sym (eqb-true r.second.time i (and_parts (nat_eq r.first.time j) (nat_eq r.second.time i) p).1)) m))
        (or_cases (nat_eq r.first.time i && nat_eq r.second.time j) (nat_eq r.first.time j && nat_eq r.second.time i) one)

-- ---- systems

-- if there is a system, no two of its events have one time
abbrev pub OnceIn : Option System → Type 0
OnceIn o = IfThere (λ (t : System). HappenOnce t.events) o

-- a change of terms and times of which the times stay apart
changed_once : (terms : Variable → Term Variable) (times : ℕ → ℕ) (s : System) → Distinct (map times (times_of s.events)) → HappenOnce (system_changed terms times s).events
changed_once terms times s d = subst Distinct (sym (changed_times terms times s.events)) d

-- a change of terms alone
pub terms_changed_once : (terms : Variable → Term Variable) (s : System) → HappenOnce s.events → HappenOnce (system_changed terms (λ i. i) s).events
terms_changed_once terms s h = changed_once terms (λ i. i) s (subst Distinct (sym (same_times (times_of s.events))) h)

joined_once : (p : ℕ × ℕ) (j : Joining) (o : Option MergingEvents) → merging_events (at_times p.0 p.1) j.system.events ≡ o → HappenOnce j.system.events
    → IfThere (λ (k : Joining). HappenOnce k.system.events) (joined p j o)
joined_once p j None e h =
    changed_once (bound_to []) (one_time p) j.system (replaced_once p.0 p.1 (times_of j.system.events) (none_apart p.0 p.1 j.system.events e) h)
joined_once p j (Some r) e h = at (merging r.first.happening r.second.happening)
  where
    kept : HappenOnce r.others × AreApart p.0 p.1 (times_of r.others)
    kept = some_apart p.0 p.1 j.system.events r e h

    at : (o : Option Merging) → IfThere (λ (k : Joining). HappenOnce k.system.events) (option_map (joined_by p j r) o)
    at None = tt
    at (Some m) =
        changed_once (bound_to []) (one_time p) (with_events j.system (learnt_by_at r.first.time m.way r.others))
        (subst (λ (ts : List ℕ). Distinct (map (one_time p) ts)) (sym (learnt_times r.first.time m.way r.others)) (replaced_once p.0 p.1 (times_of r.others) kept.1 kept.0))

-- all turns
all_once : (turns : ℕ) (j : Joining) → HappenOnce j.system.events → IfThere (λ (k : Joining). HappenOnce k.system.events) (all_joined turns j)
all_once zero j h = at j.times
  where
    none : (o : Option Joining) → IfThere (λ (k : Joining). HappenOnce k.system.events) (option_and_then (λ k. None) o)
    none None = tt
    none (Some k) = tt

    at : (times : List (ℕ × ℕ)) → IfThere (λ (k : Joining). HappenOnce k.system.events) (turn (λ k. None) j times)
    at [] = h
    at (p ∷ times) = none (joined p (with_times j times) (merging_events (at_times p.0 p.1) j.system.events))
all_once (suc turns) j h = at j.times (all_once turns)
  where
    at : (times : List (ℕ × ℕ)) → ((k : Joining) → HappenOnce k.system.events → IfThere (λ (k : Joining). HappenOnce k.system.events) (all_joined turns k))
        → IfThere (λ (k : Joining). HappenOnce k.system.events) (turn (all_joined turns) j times)
    at [] later = h
    at (p ∷ times) later =
        then_if_there (λ (k : Joining). HappenOnce k.system.events) (λ (k : Joining). HappenOnce k.system.events) (all_joined turns)
        (joined p (with_times j times) (merging_events (at_times p.0 p.1) j.system.events))
        (joined_once p (with_times j times) (merging_events (at_times p.0 p.1) j.system.events) refl h) later

-- the system in which these pairs are the same, if they can be
pub pairs_once : (s : System) (pairs : Option (List Binding)) → HappenOnce s.events → OnceIn (option_map (λ bs. system_changed (bound_to bs) (λ i. i) s) pairs)
pairs_once s None h = tt
pairs_once s (Some bs) h = terms_changed_once (bound_to bs) s h

-- the system in which two times are one
pub made_one_once : (s : System) (p : ℕ × ℕ) → HappenOnce s.events → OnceIn (made_one s p)
made_one_once s p h =
    then_if_there (λ (j : Joining). HappenOnce j.system.events) (λ (t : System). HappenOnce t.events) unified
    (all_joined (suc (length s.events)) (record { system = s; pairs = []; times = p ∷ [] }))
    (all_once (suc (length s.events)) (record { system = s; pairs = []; times = p ∷ [] }) h)
    (λ j k. pairs_once j.system (mgu j.pairs) k)
