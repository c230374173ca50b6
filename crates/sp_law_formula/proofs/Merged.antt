-- Two events of a list that are one entry of a log, and one time for another.
use Rattle.std.proofs.Common.{◌≡◌, ◌≤◌, ◌<◌, ℕ, suc, Bool, true, false, if◌then◌else◌, List, [], ◌∷◌, length, Option, Some, None, option_map, option_and_then, refl, sym, ap, ◌∙◌, subst, nat_lt, nat_eq}
use Rattle.std.proofs.lemmas.Bool.{eqb-true}
use Rattle.sp_spec.specs.Lists.{Every}
use Rattle.sp_spec.specs.Term.{Names, Variable, MadeOf}
use Rattle.sp_spec.specs.Signature.{RespectsSorts}
use Rattle.sp_spec.specs.Theory.{Theory}
use Rattle.sp_spec.specs.Substitution.{Binding, bound_to}
use Rattle.sp_spec.specs.Unifier.{Pair}
use Rattle.sp_spec.specs.Log.{Log}
use Rattle.sp_spec_system.specs.System.{Event, System}
use Rattle.sp_spec_system.specs.Solutions.{Valuation, Solves}
use Rattle.sp_spec_system.specs.Numbered.{IsNumbered}
use Rattle.sp_law_system.specs.Laws.{UnifierIsRight}
use Rattle.sp_spec_system.specs.Equating.{unifier_of, smaller, larger}
use Rattle.sp_spec.specs.Change.{time_replaced}
use Rattle.sp_law_system.proofs.Unifying.{mgu_within}
use Rattle.sp_law_system.proofs.Merging.{OptionUnder}
use Rattle.sp_law_system.proofs.Solutions.{Under}
use Rattle.sp_spec_system.specs.MakingOne.{MergingEvents, merging_behind, merging_with, merging_from, merging_events}
use Rattle.sp_spec.proofs.Options.{mapped}

-- what a list of events gives as two that merge
pub record AreMerging (are_one : Event → Event → Bool) (P : Event → Type 0) (r : MergingEvents) : Type 0 where
  pub first : P r.first
  pub second : P r.second
  pub others : Every P r.others
  pub one : are_one r.first r.second ≡ true

record IsMerging (are_one : Event → Event → Bool) (P : Event → Type 0) (e : Event) (r : MergingEvents) : Type 0 where
  first : r.first ≡ e
  second : P r.second
  others : Every P r.others
  one : are_one e r.second ≡ true

module _ (are_one : Event → Event → Bool) (P : Event → Type 0) where
  merging_is : (e : Event) (es : List Event) (r : MergingEvents) → merging_with are_one e es ≡ Some r → Every P es → IsMerging are_one P e r
  merging_is e [] r h k = absurd cc
  merging_is e (d ∷ es) r h k = at (are_one e d) refl h (λ q l. merging_is e es q l k.1)
    where
      here : MergingEvents
      here = record { first = e; second = d; others = es }

      at : (b : Bool) → are_one e d ≡ b → (if b then Some here else option_map (merging_behind d) (merging_with are_one e es)) ≡ Some r
          → ((q : MergingEvents) → merging_with are_one e es ≡ Some q → IsMerging are_one P e q) → IsMerging are_one P e r
      at true s l later =
          let g : here ≡ r = cc in
          subst (IsMerging are_one P e) g (record { first = refl; second = k.0; others = k.1; one = s })
      at false s l later =
          let q = mapped (merging_behind d) (merging_with are_one e es) r l in
          let t = later q.0 q.1 in
          subst (IsMerging are_one P e) (sym q.2) (record { first = t.first; second = t.second; others = (k.0, t.others); one = t.one })

  pub merging_are : (es : List Event) (r : MergingEvents) → merging_events are_one es ≡ Some r → Every P es → AreMerging are_one P r
  merging_are [] r h k = absurd cc
  merging_are (e ∷ es) r h k = at (merging_with are_one e es) refl h (λ q l. merging_are es q l k.1)
    where
      at : (o : Option MergingEvents) → merging_with are_one e es ≡ o → merging_from e o (merging_events are_one es) ≡ Some r → ((q : MergingEvents) → merging_events are_one es ≡ Some q → AreMerging are_one P q) → AreMerging are_one P r
      at (Some q) s l later =
          let t = merging_is e es q s k.1 in
          let made : MergingEvents = record { first = q.first; second = q.second; others = e ∷ q.others } in
          let g : made ≡ r = cc in
          subst (AreMerging are_one P) g (record {
            first = subst P (sym t.first) k.0;
            second = t.second;
            others = (k.0, t.others);
            one = subst (λ (x : Event). are_one x q.second ≡ true) (sym t.first) t.one;
          })
      at None s l later =
          let q = mapped (merging_behind e) (merging_events are_one es) r l in
          let t = later q.0 q.1 in
          subst (AreMerging are_one P) (sym q.2) (record { first = t.first; second = t.second; others = (k.0, t.others); one = t.one })

-- one event less is left
module _ (are_one : Event → Event → Bool) where
  with_fewer : (e : Event) (es : List Event) (r : MergingEvents) → merging_with are_one e es ≡ Some r → suc (length r.others) ≡ length es
  with_fewer e [] r h = absurd cc
  with_fewer e (d ∷ es) r h = at (are_one e d) h (λ q l. with_fewer e es q l)
    where
      here : MergingEvents
      here = record { first = e; second = d; others = es }

      at : (b : Bool) → (if b then Some here else option_map (merging_behind d) (merging_with are_one e es)) ≡ Some r
          → ((q : MergingEvents) → merging_with are_one e es ≡ Some q → suc (length q.others) ≡ length es) → suc (length r.others) ≡ suc (length es)
      at true l later = let g : here ≡ r = cc in ap (λ (x : MergingEvents). suc (length x.others)) (sym g)
      at false l later =
          let q = mapped (merging_behind d) (merging_with are_one e es) r l in
          ap (λ (x : MergingEvents). suc (length x.others)) q.2 ∙ ap suc (later q.0 q.1)

  pub merging_fewer : (es : List Event) (r : MergingEvents) → merging_events are_one es ≡ Some r → suc (length r.others) ≡ length es
  merging_fewer [] r h = absurd cc
  merging_fewer (e ∷ es) r h = at (merging_with are_one e es) refl h (λ q l. merging_fewer es q l)
    where
      at : (o : Option MergingEvents) → merging_with are_one e es ≡ o → merging_from e o (merging_events are_one es) ≡ Some r
          → ((q : MergingEvents) → merging_events are_one es ≡ Some q → suc (length q.others) ≡ length es) → suc (length r.others) ≡ suc (length es)
      at (Some q) s l later =
          let made : MergingEvents = record { first = q.first; second = q.second; others = e ∷ q.others } in
          let g : made ≡ r = cc in
          ap (λ (x : MergingEvents). suc (length x.others)) (sym g) ∙ ap suc (with_fewer e es q s)
      at None s l later =
          let q = mapped (merging_behind e) (merging_events are_one es) r l in
          ap (λ (x : MergingEvents). suc (length x.others)) q.2 ∙ ap suc (later q.0 q.1)

pub replaced_same : (times : ℕ → ℕ) (a b : ℕ) → times a ≡ times b → (i : ℕ) → times (time_replaced (smaller a b) (larger a b) i) ≡ times i
replaced_same times a b e i = at (nat_lt b a)
  where
    one : (small large : ℕ) → times small ≡ times large → times (time_replaced small large i) ≡ times i
    one small large k = by (nat_eq i large) refl
      where
        by : (c : Bool) → nat_eq i large ≡ c → times (if c then small else i) ≡ times i
        by true l = k ∙ ap times (sym (eqb-true i large l))
        by false l = refl

    at : (c : Bool) → times (time_replaced (if c then b else a) (if c then a else b) i) ≡ times i
    at true = one b a (sym e)
    at false = one a b e

pub replaced_under : (n a b : ℕ) → a < n → b < n → (i : ℕ) → i < n → time_replaced (smaller a b) (larger a b) i < n
replaced_under n a b h k i l = at (nat_lt b a)
  where
    one : (small large : ℕ) → small < n → time_replaced small large i < n
    one small large s = by (nat_eq i large)
      where
        by : (c : Bool) → (if c then small else i) < n
        by true = s
        by false = l

    at : (c : Bool) → time_replaced (if c then b else a) (if c then a else b) i < n
    at true = one b a k
    at false = one a b h

pub respects : (theory : Theory) (log : Log) (v : Valuation) (s : System) → Solves theory log v s → RespectsSorts v.terms
respects theory log v s h = λ x. (h.sorts x).0

-- what the unifier of pairs below the limit puts in is below the limit
pub unifier_within : (N : Names) → UnifierIsRight → (n : ℕ) (o : Option (List Pair)) (bs : List Binding) → unifier_of o ≡ Some bs → OptionUnder N n o → (x : Variable) → Under n x → MadeOf N (Under n) (bound_to bs x)
unifier_within N right n None bs e u x h = absurd cc
unifier_within N right n (Some pairs) bs e u x h = mgu_within N (Under n) pairs bs u e x h

-- it is there, and this holds of it; and this holds of it if it is there
abbrev pub ThereIs : {A : Type 0} → (A → Type 0) → Option A → Type 0
ThereIs P None = ⊥
ThereIs P (Some x) = P x

abbrev pub IfThere : {A : Type 0} → (A → Type 0) → Option A → Type 0
IfThere P None = Unit {0}
IfThere P (Some x) = P x

pub then_there : {A B : Type 0} (P Q : A → Type 0) (R : B → Type 0) (f : A → Option B) (o : Option A) → ThereIs P o → IfThere Q o → ((x : A) → P x → Q x → ThereIs R (f x)) → ThereIs R (option_and_then f o)
then_there P Q R f None h k next = h
then_there P Q R f (Some x) h k next = next x h k

pub then_if_there : {A B : Type 0} (P : A → Type 0) (R : B → Type 0) (f : A → Option B) (o : Option A) → IfThere P o → ((x : A) → P x → IfThere R (f x)) → IfThere R (option_and_then f o)
then_if_there P R f None h next = tt
then_if_there P R f (Some x) h next = next x h

-- there is a system, and it has this solution
abbrev pub SolvedBy : Theory → Log → Valuation → Option System → Type 0
SolvedBy theory log v o = ThereIs (Solves theory log v) o

-- the system's numbers are below its next one, which is no smaller than before
abbrev pub Later : Names → ℕ → System → Type 0
Later N n t = IsNumbered N t × (n ≤ t.next)

-- so they are if there is a system
abbrev pub NumberedFrom : Names → ℕ → Option System → Type 0
NumberedFrom N n o = IfThere (Later N n) o
