-- A send needs a learn: what is sent was learnt before, by an event that is there or by a new one.
use Rattle.std.proofs.Common.{◌≡◌, ◌≤◌, ◌<◌, ℕ, [], ◌∷◌, Option, Some, None, refl, subst, sym}
use Rattle.sp_spec.specs.Lists.{Member, AtPosition}
use Rattle.sp_spec.specs.Term.{Names, Variable, Term, MadeOf, valued}
use Rattle.sp_spec.specs.Theory.{Theory}
use Rattle.sp_spec.specs.Log.{send}
use Rattle.sp_spec.proofs.Lists.{every_member, position_below}
use Rattle.sp_spec.proofs.Options.{mapped, if_some, some_same}
use Rattle.sp_spec_system.specs.System.{Happening, rule_step, sending, learning, Event, System}
use Rattle.sp_spec_system.specs.Solutions.{HappensIn}
use Rattle.sp_spec_system.specs.Numbered.{InEvent, InHappening, IsNumbered}
use Rattle.sp_spec_system.specs.Covering.{Covers}
use Rattle.sp_spec_system.specs.Picked.{first_some}
use Rattle.sp_law_system.proofs.Solutions.{Under, TimeUnder}
use Rattle.sp_law_formula.proofs.Matches.{some_picked}
use Rattle.sp_spec_know.specs.Learning.{is_unlearnt, learnt_before}
use Rattle.sp_spec_know.specs.SendLearnt.{sent, if_unlearnt, unlearnt_sending, send_learnt}
use Rattle.sp_law_know.proofs.Learnt.{sent_learnt}
use Rattle.sp_law_know.proofs.Learning.{SolvedLater, learnt_before_numbered, learnt_before_solved}

-- What the row adds: an event that sends a message, which is to be learnt before.
record Adds (s t : System) : Type 0 where
  event : Event
  message : Term Variable
  stands : Member event s.events
  sends : event.happening ≡ sending message
  is : t ≡ learnt_before message event.time s

is_sending : (h : Happening) (m : Term Variable) → sent h ≡ Some m → h ≡ sending m
is_sending (sending u) m e = let g : u ≡ m = cc in cc
is_sending (rule_step r facts) m e = absurd cc
is_sending (learning u way) m e = absurd cc

adds : (s t : System) → send_learnt s ≡ Some t → Adds s t
adds s t e =
    let r = mapped (λ (p : Term Variable × ℕ). learnt_before p.0 p.1 s) (first_some (unlearnt_sending s) s.events) t e in
    let d = some_picked (unlearnt_sending s) s.events r.0 r.1 in
    at d.0 d.1 r.0 r.2 (sent d.0.happening) refl d.2
  where
    at : (d : Event) → Member d s.events → (p : Term Variable × ℕ) → t ≡ learnt_before p.0 p.1 s → (o : Option (Term Variable)) → sent d.happening ≡ o
        → if_unlearnt s d.time o ≡ Some p → Adds s t
    at d among p is None k l = absurd cc
    at d among p is (Some m) k l =
        let same : p ≡ (m, d.time) = some_same (m, d.time) p (if_some (is_unlearnt s m d.time) (Some (m, d.time)) p l).1 in
        record {
          event = d;
          message = m;
          stands = among;
          sends = is_sending d.happening m k;
          is = subst (λ (x : Term Variable × ℕ). t ≡ learnt_before x.0 x.1 s) same is;
        }

module _ {N : Names} (s t : System) (e : send_learnt s ≡ Some t) (n : IsNumbered N s) where
  abbrev a : Adds s t
  a = adds s t e

  time_under : a.event.time < s.next
  time_under = (every_member (InEvent N (Under s.next) (TimeUnder s.next)) s.events a.event a.stands n.events).0

  message_under : MadeOf N (Under s.next) a.message
  message_under =
      subst (InHappening N (Under s.next) (TimeUnder s.next)) a.sends
      (every_member (InEvent N (Under s.next) (TimeUnder s.next)) s.events a.event a.stands n.events).1

  pub send_learnt_covers : (theory : Theory) → Covers theory s (t ∷ [])
  send_learnt_covers theory = record {
    covers = λ log is v h none.
        let happens = every_member (HappensIn log v) s.events a.event a.stands h.events in
        let here : AtPosition log (v.times a.event.time) (send (valued v.terms a.message)) =
        subst (λ (x : Happening). HappensIn log v (record { time = a.event.time; happening = x })) a.sends happens in
        let known = sent_learnt theory log is (v.times a.event.time) (valued v.terms a.message) here in
        let below = position_below log (v.times a.event.time) (send (valued v.terms a.message)) here in
        let new = learnt_before_solved s n a.message message_under a.event.time time_under theory log is v h known.0 known.1 known.2 known.3 below in
        let so = subst (SolvedLater theory log s.next v) (sym a.is) new in
        none.0 so.0 so.1 so.2;
  }

pub send_learnt_numbered : {N : Names} (s t : System) → send_learnt s ≡ Some t → IsNumbered N s → IsNumbered N t × (s.next ≤ t.next)
send_learnt_numbered {N = N} s t e n =
    let x = adds s t e in
    let P : System → Type 0 = λ w. IsNumbered N w × (s.next ≤ w.next) in
    subst P (sym x.is) (learnt_before_numbered s n x.message (message_under s t e n) x.event.time (time_under s t e n))
