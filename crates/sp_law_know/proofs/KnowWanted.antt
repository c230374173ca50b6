-- The message that is asked for: learnt anyhow, it is no message variable and not settled, so that its value tells what it is.
use Rattle.std.proofs.Common.{◌≡◌, ◌<◌, ◌||◌, ℕ, Bool, true, false, not, if◌then◌else◌, List, Option, Some, None, is_none, refl, ap, subst}
use Rattle.sp_spec.specs.Lists.{Member, Every, AtPosition}
use Rattle.sp_spec.specs.Term.{Names, fresh_name, Sort, Msg, Fresh, Pub, Variable, Term, var, constant, name, app, Terms, Grounds, MadeOf, Values, valued, valued_all}
use Rattle.sp_spec.specs.Signature.{Symbol, HasSort, RespectsSorts}
use Rattle.sp_spec.specs.Log.{Log, How, learn}
use Rattle.sp_spec.proofs.Lists.{every_member}
use Rattle.sp_spec.proofs.Options.{then_some}
use Rattle.sp_spec_system.specs.System.{anyhow, public_name, own_name, constructed, chain_begun, chain_done, Happening, rule_step, sending, learning, Event, System}
use Rattle.sp_spec_system.specs.Solutions.{Valuation, HappensAt, HappensIn}
use Rattle.sp_spec_system.specs.Numbered.{InHappening, InEvent, IsNumbered}
use Rattle.sp_spec_system.specs.MakingOne.{event_at}
use Rattle.sp_spec_know.specs.SettleLearn.{of_sort_pub, settling}
use Rattle.sp_spec_know.specs.Know.{learnt_anyhow, is_message_sort, is_message_variable, if_wanted, wanted_at}
use Rattle.sp_law_system.proofs.Solutions.{Under, TimeUnder}
use Rattle.sp_law_formula.proofs.Action.{event_found}

-- it is no message variable and not settled
abbrev pub IsWanted : List Symbol → Term Variable → Type 0
IsWanted symbols m = (is_message_variable m ≡ false) × (settling symbols 0 m ≡ None)

wanted : (symbols : List Symbol) (t m : Term Variable) → if_wanted symbols t ≡ Some m → (t ≡ m) × IsWanted symbols t
wanted symbols t m e = at (is_message_variable t) (settling symbols 0 t) refl refl e
  where
    at : (b : Bool) (o : Option _) → is_message_variable t ≡ b → settling symbols 0 t ≡ o → (if b || not (is_none o) then None else Some t) ≡ Some m
        → (t ≡ m) × IsWanted symbols t
    at true o k l e = absurd cc
    at false (Some x) k l e = absurd cc
    at false None k l e = (cc, (k, l))

is_learning : (h : Happening) (m : Term Variable) → learnt_anyhow h ≡ Some m → h ≡ learning m anyhow
is_learning (rule_step r facts) m e = absurd cc
is_learning (sending t) m e = absurd cc
is_learning (learning t anyhow) m e = let g : t ≡ m = cc in ap (λ (x : Term Variable). learning x anyhow) g
is_learning (learning t public_name) m e = absurd cc
is_learning (learning t own_name) m e = absurd cc
is_learning (learning t constructed) m e = absurd cc
is_learning (learning t (chain_begun j k ts)) m e = absurd cc
is_learning (learning t (chain_done j k ts)) m e = absurd cc

-- an event at the time learns it anyhow
pub record Asked (symbols : List Symbol) (s : System) (i : ℕ) (m : Term Variable) : Type 0 where
  pub event : Event
  pub stands : Member event s.events
  pub at_time : event.time ≡ i
  pub learns : event.happening ≡ learning m anyhow
  pub is_wanted : IsWanted symbols m

pub asked : (symbols : List Symbol) (s : System) (i : ℕ) (m : Term Variable) → wanted_at symbols s i ≡ Some m → Asked symbols s i m
asked symbols s i m e =
    let r = then_some _ (event_at i s.events) m e in
    let found = event_found i s.events r.0 r.1 in
    let q = then_some (if_wanted symbols) (learnt_anyhow r.0.happening) m r.2 in
    let w = wanted symbols q.0 m q.2 in
    record {
      event = r.0;
      stands = found.0;
      at_time = found.1;
      learns = subst (λ (t : Term Variable). r.0.happening ≡ learning t anyhow) w.0 (is_learning r.0.happening q.0 q.1);
      is_wanted = subst (IsWanted symbols) w.0 w.1;
    }

module _ (symbols : List Symbol) (s : System) (i : ℕ) (m : Term Variable) (a : Asked symbols s i m) where
  pub asked_under : {N : Names} → IsNumbered N s → (i < s.next) × MadeOf N (Under s.next) m
  asked_under {N} n =
      let d = every_member (InEvent N (Under s.next) (TimeUnder s.next)) s.events a.event a.stands n.events in
      (subst (λ (j : ℕ). j < s.next) a.at_time d.0, (subst (InHappening N (Under s.next) (TimeUnder s.next)) a.learns d.1).0)

  -- a log learns it at the time's position
  pub asked_learnt : (log : Log) (v : Valuation) → Every (HappensIn log v) s.events → (how : How) × AtPosition log (v.times i) (learn (valued v.terms m) how)
  asked_learnt log v h =
      let happens = every_member (HappensIn log v) s.events a.event a.stands h in
      let here = subst (HappensAt log (v.times a.event.time) v) a.learns happens in
      (here.0, subst (λ (j : ℕ). AtPosition log (v.times j) (learn (valued v.terms m) here.0)) a.at_time here.1)

-- ---- what it is, by its value

module _ (symbols : List Symbol) (v : Values) (sorts : RespectsSorts v) where
  -- of a variable that is asked for the sort is fresh
  fresh_variable : (x : Variable) → IsWanted symbols (var x) → x.sort ≡ Fresh
  fresh_variable x w = at x.sort refl w.0 w.1
    where
      at : (sort : Sort) → x.sort ≡ sort → is_message_sort sort ≡ false → of_sort_pub sort 0 ≡ None → x.sort ≡ Fresh
      at Msg e k l = absurd cc
      at Pub e k l = absurd cc
      at Fresh e k l = e

  has_name : (x : Variable) → IsWanted symbols (var x) → HasSort Fresh (v x)
  has_name x w = subst (λ (sort : Sort). HasSort sort (v x)) (fresh_variable x w) (sorts x)

  pub no_public_name : (m : Term Variable) → IsWanted symbols m → HasSort Pub (valued v m) → ⊥
  no_public_name (var x) w public = at (v x) (has_name x w) public
    where
      at : (t : Term ⊥) → HasSort Fresh t → HasSort Pub t → ⊥
      at (var y) a b = y
      at (constant c) a b = a
      at (name k) a b = b
      at (app f ts) a b = a
  no_public_name (constant c) w public = let e = w.1 in absurd cc
  no_public_name (name k) w public = public
  no_public_name (app f ts) w public = public

  pub own_variable : (N : Names) → ((k : ℕ) → N (fresh_name k) → ⊥) → (P : Variable → Type 0) (m : Term Variable) → MadeOf N P m → IsWanted symbols m
      → HasSort Fresh (valued v m)
      → (x : Variable) × (m ≡ var x) × (x.sort ≡ Fresh)
  own_variable N no_names P (var x) made w own = (x, refl, fresh_variable x w)
  own_variable N no_names P (constant c) made w own = absurd own
  own_variable N no_names P (name k) made w own = absurd (no_names k made)
  own_variable N no_names P (app f ts) made w own = absurd own

  pub made_application : (m : Term Variable) → IsWanted symbols m → (f : List ℕ) (ts : Grounds) → valued v m ≡ app f ts
      → (us : Terms Variable) × (m ≡ app f us) × (valued_all v us ≡ ts)
  made_application (var x) w f ts e = absurd (subst (HasSort Fresh) e (has_name x w))
  made_application (constant c) w f ts e = absurd cc
  made_application (name k) w f ts e = absurd cc
  made_application (app g us) w f ts e =
      let symbol : g ≡ f = cc in
      let args : valued_all v us ≡ ts = cc in
      (us, ap (λ (h : List ℕ). app h us) symbol, args)
