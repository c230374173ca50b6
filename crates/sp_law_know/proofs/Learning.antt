-- A new event at the next number: it keeps the numbers, and is solved where it happens at the new number's position. And a message that is to be learnt before
-- a time: it is, by an event that is there or by a new one.
use Rattle.std.proofs.Common.{◌≡◌, ◌≤◌, ◌<◌, ℕ, suc, Bool, true, false, if◌then◌else◌, List, [], ◌∷◌, ◌++◌, length, Option, Some, None, refl, sym, ap, ◌∙◌, subst, inl, inr, arith, le_refl}
use Rattle.sp_spec.specs.Lists.{Member, AtPosition}
use Rattle.sp_spec.specs.Term.{Names, Variable, Term, MadeOf, Values, valued}
use Rattle.sp_spec.specs.Theory.{Theory}
use Rattle.sp_spec.specs.Log.{Log, How, learn, IsLog}
use Rattle.sp_spec.proofs.Lists.{every_append, every_member}
use Rattle.sp_spec.proofs.Same.{alike_same}
use Rattle.sp_spec_system.specs.System.{anyhow, Happening, rule_step, sending, learning, Event, System, with_events, with_next, with_pairs}
use Rattle.sp_spec_system.specs.Solutions.{Valuation, HappensAt, HappensIn, IsBefore, Solves}
use Rattle.sp_spec_system.specs.Numbered.{InHappening, InEvent, IsNumbered}
use Rattle.sp_spec_system.specs.Covering.{Agrees}
use Rattle.sp_spec_system.specs.Order.{is_before}
use Rattle.sp_law_equal.proofs.Made.{each_weaken}
use Rattle.sp_law_system.proofs.Solutions.{Under, TimeUnder, agrees_itself}
use Rattle.sp_law_system.proofs.With.{BothUnder, events_solve, found_behind, order_solves, next_solves, events_numbered, order_numbered, next_numbered}
use Rattle.sp_spec_know.specs.Learning.{is_learning_of, learning_of, with_event, learnt_from, learnt_before}
use Rattle.sp_law_know.proofs.Learnt.{learnt_at_one}
use Rattle.sp_law_graph.proofs.Waiting.{timed, timed_terms, timed_agrees, timed_new, timed_before, timed_solves}

-- the system with more events and a larger next number is the one with the event
module _ (s : System) (h : Happening) where
  abbrev new : Event
  new = record { time = s.next; happening = h }

  pub event_numbered : {N : Names} → IsNumbered N (with_next s (suc s.next)) → InHappening N (Under (suc s.next)) (TimeUnder (suc s.next)) h
      → IsNumbered N (with_event s h)
  event_numbered {N} n i =
      let next = suc s.next in
      events_numbered (with_next s next) n (s.events ++ new ∷ [])
      (every_append (InEvent N (Under next) (TimeUnder next)) s.events (new ∷ []) n.events ((omega arith, i), tt))

  pub event_solved : (theory : Theory) (log : Log) (v : Valuation) → Solves theory log v s → HappensAt log (v.times s.next) v h
      → Solves theory log v (with_event s h)
  event_solved theory log v k here =
      let es = s.events ++ new ∷ [] in
      let more_events = events_solve theory log v s k es (found_behind v s.events (new ∷ [])) (every_append (HappensIn log v) s.events (new ∷ []) k.events (here, tt)) in
      next_solves theory log v (with_events s es) more_events (suc s.next)

-- values that agree with these on the numbers kept, by which the log solves the system
abbrev pub SolvedLater : Theory → Log → ℕ → Valuation → System → Type 0
SolvedLater theory log base v s = (w : Valuation) × Agrees base v w × Solves theory log w s

-- ---- a message that is learnt

-- an event that learns the message
learning_found : (t : Term Variable) (es : List Event) (j : ℕ) → learning_of t es ≡ Some j
    → (e : Event) × Member e es × (e.time ≡ j) × (is_learning_of t e.happening ≡ true)
learning_found t [] j e = absurd cc
learning_found t (d ∷ es) j e = at (is_learning_of t d.happening) refl e (λ k. learning_found t es j k)
  where
    at : (b : Bool) → is_learning_of t d.happening ≡ b → (if b then Some d.time else learning_of t es) ≡ Some j
        → (learning_of t es ≡ Some j → (e : Event) × Member e es × (e.time ≡ j) × (is_learning_of t e.happening ≡ true))
        → (e : Event) × Member e (d ∷ es) × (e.time ≡ j) × (is_learning_of t e.happening ≡ true)
    at true k l later = (d, inl refl, (let g : d.time ≡ j = cc in g), k)
    at false k l later = let r = later l in (r.0, inr r.1, r.2, r.3)

-- where it happens, the message's value is learnt
pub learning_learns : (log : Log) (v : Valuation) (p : ℕ) (t : Term Variable) (h : Happening) → is_learning_of t h ≡ true → HappensAt log p v h
    → (how : How) × AtPosition log p (learn (valued v.terms t) how)
learning_learns log v p t (learning m way) e h =
    (h.0, subst (λ (u : Term Variable). AtPosition log p (learn (valued v.terms u) h.0)) (sym (alike_same t m e)) h.1)
learning_learns log v p t (sending m) e h = absurd cc
learning_learns log v p t (rule_step r facts) e h = absurd cc

module _ {N : Names} (s : System) (n : IsNumbered N s) (t : Term Variable) (t_under : MadeOf N (Under s.next) t) (i : ℕ) (i_under : i < s.next) where
  abbrev pairs : List (ℕ × ℕ)
  pairs = (s.next, i) ∷ []

  pub newly_numbered : IsNumbered N (with_event (with_pairs s pairs) (learning t anyhow))
  newly_numbered =
      let next = suc s.next in
      let old : i < next = omega (arith, i_under) in
      let new_under : s.next < next = omega arith in
      let m = next_numbered s n next (omega arith) in
      let ordered = order_numbered (with_next s next) m (s.order ++ pairs) (every_append (BothUnder next) s.order pairs m.order ((new_under, old), tt)) in
      let wide : (x : Variable) → Under s.next x → Under next x = λ x k. omega (arith, k) in
      event_numbered (with_pairs s pairs) (learning t anyhow) ordered (each_weaken N (Under s.next) (Under next) wide t t_under, tt)

  abbrev Kept : System → Type 0
  Kept w = IsNumbered N w × (s.next ≤ w.next)

  pub learnt_before_numbered : Kept (learnt_before t i s)
  learnt_before_numbered = at (learning_of t s.events) refl
    where
      at : (o : Option ℕ) → learning_of t s.events ≡ o → Kept (learnt_from t i s o)
      at None e = (newly_numbered, omega arith)
      at (Some j) e = kept (is_before s.order j i)
        where
          j_under : j < s.next
          j_under =
              let d = learning_found t s.events j e in
              subst (λ (k : ℕ). k < s.next) d.2 (every_member (InEvent N (Under s.next) (TimeUnder s.next)) s.events d.0 d.1 n.events).0

          kept : (b : Bool) → Kept (if b then s else with_pairs s ((j, i) ∷ []))
          kept true = (n, le_refl s.next)
          kept false =
              let order = every_append (BothUnder s.next) s.order ((j, i) ∷ []) n.order ((j_under, i_under), tt) in
              (order_numbered s n (s.order ++ (j, i) ∷ []) order, le_refl s.next)

  -- where the log learns the message before that time
  module _ (theory : Theory) (log : Log) (is : IsLog theory log) (v : Valuation) (h : Solves theory log v s) (q : ℕ) (how : How)
      (there : AtPosition log q (learn (valued v.terms t) how))
      (earlier : q < v.times i) (below : v.times i < length log) where
    abbrev Solution : System → Type 0
    Solution w = SolvedLater theory log s.next v w

    pub newly_solved : Solves theory log (timed s.next q v) (with_event (with_pairs s pairs) (learning t anyhow))
    newly_solved =
        let w = timed s.next q v in
        let old = timed_solves theory log s v q n h in
        let order = every_append (IsBefore log w) s.order pairs old.order (timed_before s.next q v log i i_under earlier below, tt) in
        let ordered = order_solves theory log w s old (s.order ++ pairs) order in
        let here = subst (λ (p : ℕ). AtPosition log p (learn (valued v.terms t) how)) (sym (timed_new s.next q v)) there in
        let here_too = subst (λ (terms : Values). AtPosition log (w.times s.next) (learn (valued terms t) how)) (sym (timed_terms s.next q v)) here in
        event_solved (with_pairs s pairs) (learning t anyhow) theory log w ordered (how, here_too, tt)

    pub learnt_before_solved : Solution (learnt_before t i s)
    learnt_before_solved = at (learning_of t s.events) refl
      where
        at : (o : Option ℕ) → learning_of t s.events ≡ o → Solution (learnt_from t i s o)
        at None e = (timed s.next q v, timed_agrees s.next q v, newly_solved)
        at (Some j) e = (v, agrees_itself s.next v, solved (is_before s.order j i))
          where
            one_position : q ≡ v.times j
            one_position =
                let d = learning_found t s.events j e in
                let k = learning_learns log v (v.times d.0.time) t d.0.happening d.3 (every_member (HappensIn log v) s.events d.0 d.1 h.events) in
                learnt_at_one theory log is q (v.times d.0.time) (valued v.terms t) how k.0 there k.1 ∙ ap v.times d.2

            before : IsBefore log v (j, i)
            before = (subst (λ (k : ℕ). k < v.times i) one_position earlier, below)

            solved : (b : Bool) → Solves theory log v (if b then s else with_pairs s ((j, i) ∷ []))
            solved true = h
            solved false = order_solves theory log v s h (s.order ++ (j, i) ∷ []) (every_append (IsBefore log v) s.order ((j, i) ∷ []) h.order (before, tt))
